use Rattle.std.proofs.Common.{◌≡◌, ◌≤◌, ◌++◌, ap, sym, subst, ◌∙◌, List, length, OnOk}
use Rattle.loop_match.specs.declared.next.Step.{Step}
use Rattle.loop_match.specs.Steps.{place_view, turned}
use Rattle.set_walk.proofs.walk.write_place.Goals as goal

pub move_on-requires : goal.move_on-requires
move_on-requires c =
    let all : c.extend_from_slice.new.self.items ≡ c.args.last.now =
    c.in_ok-extend_from_slice.ensures.items ∙ ap (λ (l : List Step). l ++ c.args.last.now) c.clear.ensures.items in
    subst (λ (l : List Step). c.args.turn.now.depth ≤ length l) (sym all) c.requires

pub returns : goal.returns
returns c =
    let turn = c.args.turn.now in
    let all : c.extend_from_slice.new.self.items ≡ c.args.last.now =
    c.in_ok-extend_from_slice.ensures.items ∙ ap (λ (l : List Step). l ++ c.args.last.now) c.clear.ensures.items in
    subst (λ (l : List Step). OnOk c.move_on.result (place_view c.move_on.new.last.items ≡ (turned (place_view l) turn).place)) all
    c.move_on.ensures
