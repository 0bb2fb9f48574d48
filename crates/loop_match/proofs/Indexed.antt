-- The next place, by the index of the child.
use Rattle.std.proofs.Common.{◌≡◌, ℕ, zero, suc, ◌+◌, ◌<◌, ◌≤◌, List, [], ◌∷◌, ◌++◌, length, get_or, take, drop, Option, Some, None, IfSome}
use Rattle.std.proofs.Common.{option_map, Bool, refl, sym, ap, ◌∙◌, arith, add-one}
use Rattle.guide_tree.specs.declared.node.Node.{Node}
use Rattle.guide_tree.specs.Words.{Tree, Trees, or_else, view, nodes_view, Segment, Pair, Place, use_of, Candidate, into, fit_starts}
use Rattle.guide_tree.specs.Words.{fit_again, fit_in, fit_from, fit_next}
use Rattle.loop_match.specs.declared.next.Turn.{Turn}
use Rattle.loop_match.specs.declared.next.Step.{Step}
use Rattle.loop_match.specs.Steps.{turned, place_view, step_view, below_start}

-- what a node gives, and the nodes after it
abbrev here : Segment → Bool → Tree → (rest : Trees) → Pair → Place → Option Candidate
here s il t rest a q = or_else (option_map (into a) (fit_in s t q)) (or_else (fit_again s il a t) (fit_starts s (a.child + 1) rest))

from_past : (s : Segment) (il : Bool) (ns : List Node) (n : ℕ) (a : Pair) (q : Place) → length ns ≤ n
    → fit_from s il (nodes_view ns) n a q ≡ None
from_past s il [] n a q h = refl
from_past s il (x ∷ ns) zero a q h = absurd (omega arith)
from_past s il (x ∷ ns) (suc n) a q h = from_past s il ns n a q (omega arith)

from_at : (s : Segment) (il : Bool) (ns : List Node) (n : ℕ) (a : Pair) (q : Place) (d : Node) → n < length ns
    → fit_from s il (nodes_view ns) n a q ≡ here s il (view (get_or ns n d)) (nodes_view (drop (suc n) ns)) a q
from_at s il [] n a q d h = absurd (omega arith)
from_at s il (x ∷ ns) zero a q d h = refl
from_at s il (x ∷ ns) (suc n) a q d h = from_at s il ns n a q d (omega arith)

pub next_outside : (s : Segment) (il : Bool) (ns : List Node) (place : List Step) (a : Step) (rest : List Step)
    → place ≡ a ∷ rest → length ns ≤ a.child → None ≡ fit_next s il (nodes_view ns) (place_view place)
next_outside s il ns place a rest e h =
    sym (ap (λ (l : List Step). fit_next s il (nodes_view ns) (place_view l)) e
    ∙ from_past s il ns a.child (step_view a) (place_view rest) h)

by_index : (s : Segment) (il : Bool) (ns : List Node) (place : List Step) (a : Step) (rest : List Step) (node : Node)
    → place ≡ a ∷ rest → a.child < length ns → node ≡ get_or ns a.child node
    → fit_next s il (nodes_view ns) (place_view place)
    ≡ here s il (view node) (nodes_view (drop (suc a.child) ns)) (step_view a) (place_view rest)
by_index s il ns place a rest node e h at =
    ap (λ (l : List Step). fit_next s il (nodes_view ns) (place_view l)) e
    ∙ from_at s il ns a.child (step_view a) (place_view rest) node h
    ∙ ap (λ (x : Node). here s il (view x) (nodes_view (drop (suc a.child) ns)) (step_view a) (place_view rest)) (sym at)

deeper : (a : Pair) (p : Place) (t : Turn) → into a (turned p t) ≡ turned (a ∷ p) (record t { depth = t.depth + 1 })
deeper a p t = rw add-one refl

below_turn : (a : Pair) (p : Place) (x y : Option Candidate) (t : Turn) → x ≡ Some (turned p t)
    → or_else (option_map (into a) x) y ≡ Some (turned (a ∷ p) (record t { depth = t.depth + 1 }))
below_turn a p x y t e = ap (λ (o : Option Candidate). or_else (option_map (into a) o) y) e ∙ ap Some (deeper a p t)

pub next_inside : (s : Segment) (il : Bool) (ns : List Node) (place : List Step) (a : Step) (rest : List Step) (node : Node)
    (t : Turn) → place ≡ a ∷ rest → a.child < length ns → node ≡ get_or ns a.child node
    → Some (turned (place_view rest) t) ≡ fit_in s (view node) (place_view rest)
    → Some (turned (place_view place) (record t { depth = t.depth + 1 })) ≡ fit_next s il (nodes_view ns) (place_view place)
next_inside s il ns place a rest node t e h at inner =
    sym (by_index s il ns place a rest node e h at
    ∙ below_turn (step_view a) (place_view rest) (fit_in s (view node) (place_view rest))
    (or_else (fit_again s il (step_view a) (view node)) (fit_starts s (a.child + 1) (nodes_view (drop (suc a.child) ns)))) t (sym inner)
    ∙ ap (λ (l : List Step). Some (turned (place_view l) (record t { depth = t.depth + 1 }))) (sym e))

abbrev going : Turn → ℕ → Place → Candidate
going t n q = record { place = take n q ++ (use_of t.child t.use_no ∷ below_start t.into_loop); slot = t.slot.now }

pub at_top : (p : Place) (r : Option Turn) → IfSome r (λ t. t.depth ≡ 0) → option_map (turned []) r ≡ option_map (turned p) r
at_top p None h = refl
at_top p (Some t) h =
    ap Some (ap (λ (n : ℕ). going t n []) h ∙ sym (ap (λ (n : ℕ). going t n p) h))

pub next_here : (s : Segment) (il : Bool) (ns : List Node) (place : List Step) (a : Step) (rest : List Step) (node : Node)
    (r : Option Turn) → place ≡ a ∷ rest → a.child < length ns → node ≡ get_or ns a.child node
    → None ≡ fit_in s (view node) (place_view rest)
    → option_map (turned []) r
    ≡ or_else (fit_again s il (step_view a) (view node)) (fit_starts s (a.child + 1) (nodes_view (drop (a.child + 1) ns)))
    → IfSome r (λ t. t.depth ≡ 0)
    → option_map (turned (place_view place)) r ≡ fit_next s il (nodes_view ns) (place_view place)
next_here s il ns place a rest node r e h at inner more top =
    sym (by_index s il ns place a rest node e h at
    ∙ ap (λ (o : Option Candidate). or_else (option_map (into (step_view a)) o)
    (or_else (fit_again s il (step_view a) (view node)) (fit_starts s (a.child + 1) (nodes_view (drop (suc a.child) ns))))) (sym inner)
    ∙ ap (λ (n : ℕ). or_else (fit_again s il (step_view a) (view node)) (fit_starts s (a.child + 1) (nodes_view (drop n ns))))
    (let u : suc a.child ≡ a.child + 1 = omega arith in u)
    ∙ sym more
    ∙ at_top (place_view place) r top)
