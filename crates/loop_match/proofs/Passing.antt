-- One more segment of a pass.
use Rattle.std.proofs.Common.{◌≡◌, ℕ, ◌+◌, List, [], ◌∷◌, ◌++◌, Option, Some, None, true, false, sym, ap, ◌∙◌}
use Rattle.std.proofs.lemmas.List.{append_assoc}
use Rattle.hub_kinds.specs.declared.fault.Fault.{Fault}
use Rattle.guide_tree.specs.Words.{GuideTree, or_else, Segment, Place, next_place_of, placing_from, pass, step_faults, stray_fault}
use Rattle.loop_match.specs.declared.next.Step.{Step}
use Rattle.loop_match.specs.Steps.{place_view, last_of, HasGone}

-- what the body adds after a last place
abbrev pub left : GuideTree → (end at : ℕ) → Option Place → List Segment → List Fault
left g end at last body = pass g end at last body (placing_from g.nodes last body)

found_more : (g : GuideTree) (end at : ℕ) (last next x : Option Place) (s : Segment) (body : List Segment) (f h fs : List Fault)
    → next_place_of g.nodes last s ≡ x
    → pass g end at last (s ∷ body) (x ∷ placing_from g.nodes (or_else x last) body) ≡ fs ++ left g end (at + 1) next body
    → h ≡ f ++ fs → h ++ left g end (at + 1) next body ≡ f ++ left g end at last (s ∷ body)
found_more g end at last next x s body f h fs e c d =
    ap (λ (l : List Fault). l ++ left g end (at + 1) next body) d ∙ append_assoc f fs (left g end (at + 1) next body)
    ∙ ap (λ (l : List Fault). f ++ l) (sym c)
    ∙ sym (ap (λ (y : Option Place). f ++ pass g end at last (s ∷ body) (y ∷ placing_from g.nodes (or_else y last) body)) e)

pub found_stray : (g : GuideTree) (end at : ℕ) (old new : List Step) (s : Segment) (body : List Segment) (f h : List Fault)
    → HasGone g.nodes old new s false → h ≡ f ++ stray_fault g at s ∷ []
    → h ++ left g end (at + 1) (last_of (place_view new)) body ≡ f ++ left g end at (last_of (place_view old)) (s ∷ body)
found_stray g end at old new s body f h w d =
    found_more g end at (last_of (place_view old)) (last_of (place_view new)) None s body f h (stray_fault g at s ∷ []) w.0
    (ap (λ (l : List Step). stray_fault g at s ∷ left g end (at + 1) (last_of (place_view l)) body) (sym w.1)) d

pub found_step : (g : GuideTree) (end at : ℕ) (old new : List Step) (s : Segment) (body : List Segment) (f h : List Fault)
    → HasGone g.nodes old new s true → h ≡ f ++ step_faults at g.nodes (last_of (place_view old)) (place_view new)
    → h ++ left g end (at + 1) (last_of (place_view new)) body ≡ f ++ left g end at (last_of (place_view old)) (s ∷ body)
found_step g end at old new s body f h w d =
    let last = last_of (place_view old) in let q = place_view new in
    found_more g end at last (last_of q) (Some q) s body f h (step_faults at g.nodes last q) w.0
    (ap (λ (n : Option Place). step_faults at g.nodes last q ++ left g end (at + 1) n body) (sym w.1)) d
