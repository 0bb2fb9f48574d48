use Rattle.std.proofs.Common.{◌≡◌, ◌++◌, ◌∷◌, [], ap, sym, ◌∙◌, List, take, Bool}
use Rattle.std.proofs.lemmas.List.{append_assoc}
use Rattle.guide_tree.specs.Words.{use_of}
use Rattle.loop_match.specs.declared.next.Step.{Step}
use Rattle.loop_match.specs.Steps.{place_view, below_start}
use Rattle.loop_match.proofs.ForAbove.{went, step_of}
use Rattle.set_walk.proofs.walk.move_on.Goals as goal

pub returns-in_ok-push-2 : goal.returns-in_ok-push-2
returns-in_ok-push-2 c =
    let turn = c.args.turn.now in
    let last = c.args.last.now.items in
    let first : c.truncate.new.self.items ≡ take turn.depth last = c.truncate.ensures.items in
    ap place_view (c.in_ok-push-2.ensures.items
    ∙ ap (λ (l : List Step). l ++ step_of 0 0 ∷ [])
    (c.in_ok-push.ensures.items ∙ ap (λ (l : List Step). l ++ step_of turn.child turn.use_no ∷ []) first)
    ∙ append_assoc (take turn.depth last) (step_of turn.child turn.use_no ∷ []) (step_of 0 0 ∷ []))
    ∙ went turn.depth last (step_of turn.child turn.use_no ∷ step_of 0 0 ∷ [])
    ∙ ap (λ (b : Bool). take turn.depth (place_view last) ++ use_of turn.child turn.use_no ∷ below_start b) (sym c.if-turn.true)

pub returns-else-turn : goal.returns-else-turn
returns-else-turn c =
    let turn = c.args.turn.now in
    let last = c.args.last.now.items in
    let first : c.truncate.new.self.items ≡ take turn.depth last = c.truncate.ensures.items in
    ap place_view (c.in_ok-push.ensures.items ∙ ap (λ (l : List Step). l ++ step_of turn.child turn.use_no ∷ []) first)
    ∙ went turn.depth last (step_of turn.child turn.use_no ∷ [])
    ∙ ap (λ (b : Bool). take turn.depth (place_view last) ++ use_of turn.child turn.use_no ∷ below_start b) (sym c.if-turn.false)
