-- The loop round a place, found step by step.
use Rattle.std.proofs.Common.{◌≡◌, ℕ, zero, suc, ◌+◌, ◌<◌, ◌≤◌, List, [], ◌∷◌, length, get_or, drop}
use Rattle.std.proofs.Common.{refl, sym, ap, ◌∙◌, arith, add-one, drop-cons, true, false, nat_lt}
use Rattle.std.proofs.lemmas.Bool.Decides.{nat_tests}
use Rattle.guide_tree.specs.declared.node.Node.{Node}
use Rattle.guide_tree.specs.Words.{view, nodes_view, Place}
use Rattle.loop_match.specs.declared.next.Step.{Step}
use Rattle.loop_match.specs.Steps.{place_view, step_view}
use Rattle.loop_match.specs.LoopIds.{loop_id_in, loop_id_nth, loop_id_under}

by_child : (outer : List ℕ) (ns : List Node) (n : ℕ) (q : Place) (d : Node) → n < length ns
    → loop_id_nth outer (nodes_view ns) n q ≡ loop_id_in outer (view (get_or ns n d)) q
by_child outer [] n q d h = absurd (omega arith)
by_child outer (x ∷ ns) zero q d h = refl
by_child outer (x ∷ ns) (suc n) q d h = by_child outer ns n q d (omega arith)

past_child : (outer : List ℕ) (ns : List Node) (n : ℕ) (q : Place) → length ns ≤ n
    → loop_id_nth outer (nodes_view ns) n q ≡ outer
past_child outer [] n q h = refl
past_child outer (x ∷ ns) zero q h = absurd (omega arith)
past_child outer (x ∷ ns) (suc n) q h = past_child outer ns n q (omega arith)

-- what is left of a place begins with its next step
pub steps_left : (place : List Step) (i : ℕ) (d : Step) → i < length place
    → place_view (drop i place) ≡ step_view (get_or place i d) ∷ place_view (drop (i + 1) place)
steps_left place i d h = rw (add-one) (ap place_view (drop-cons place i d h))

pub past_here : (outer : List ℕ) (ns : List Node) (place : List Step) (i : ℕ) (d : Step) → i < length place
    → length ns ≤ (get_or place i d).child → loop_id_under outer (nodes_view ns) (place_view (drop i place)) ≡ outer
past_here outer ns place i d h l =
    ap (loop_id_under outer (nodes_view ns)) (steps_left place i d h)
    ∙ past_child outer ns (get_or place i d).child (place_view (drop (i + 1) place)) l

pub at_here : (outer : List ℕ) (ns : List Node) (place : List Step) (i : ℕ) (d : Step) (node : Node) → i < length place
    → (get_or place i d).child < length ns → node ≡ get_or ns (get_or place i d).child node
    → loop_id_under outer (nodes_view ns) (place_view (drop i place)) ≡ loop_id_in outer (view node) (place_view (drop (i + 1) place))
at_here outer ns place i d node h l e =
    ap (loop_id_under outer (nodes_view ns)) (steps_left place i d h)
    ∙ by_child outer ns (get_or place i d).child (place_view (drop (i + 1) place)) node l
    ∙ ap (λ (x : Node). loop_id_in outer (view x) (place_view (drop (i + 1) place))) (sym e)

pub behind_last : (k n : ℕ) → false ≡ nat_lt k n → n ≤ k
behind_last k n h = grind (arith, nat_tests)

pub before_end : (k n : ℕ) → true ≡ nat_lt k n → k < n
before_end k n h = grind (arith, nat_tests)

abbrev pub no_step : Step
no_step = record { child = 0; use_no = 0 }
