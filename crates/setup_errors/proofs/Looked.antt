-- What is found among the nodes that a search goes over.
use Rattle.std.proofs.Common.{◌≡◌, ◌≢◌, ◌∙◌, ℕ, zero, suc, ◌+◌, ◌-◌, ◌<◌, List, length, get_or, drop, refl, sym, ap, add-one, arith}
use Rattle.std.proofs.Common.{drop-cons, rules}
use Rattle.std.specs.declared.alloc.Global.{Global}
use Rattle.std.specs.declared.vec.Vec.{Vec}
use Rattle.guide_tree.specs.declared.node.Node.{Node}
use Rattle.guide_tree.specs.declared.node.Node.TheVariants as node
use Rattle.guide_tree.specs.declared.node.Node.TheFolds.{the_lemmas}
use Rattle.guide_tree.specs.declared.node.Loop.{Loop}
use Rattle.guide_tree.specs.declared.slot.Slot.{Slot}
use Rattle.guide_tree.specs.Words.{Tree, Trees, loop, nodes_view, segment, tree, view}
use Rattle.setup_errors.specs.Search.{Found, at, behind, found, found_in, or_in}

pub view_loop : (n : Node) (l : Loop) (ns : Vec Node Global) (us : List Node) → n ≡ node.Loop l ns → us ≡ ns.items
    → view n ≡ loop l (nodes_view us)
view_loop n l ns us e o =
    ap view e ∙ (let v : view (node.Loop l ns) ≡ loop l (nodes_view ns.items) = search (rules, the_lemmas) in v)
    ∙ ap (λ (xs : List Node). loop l (nodes_view xs)) (sym o)

pub view_segment : (n : Node) (s : Slot) → n ≡ node.Segment s → view n ≡ segment s
view_segment n s e = ap view e ∙ (let v : view (node.Segment s) ≡ segment s = search (rules, the_lemmas) in v)

viewed : (ns : List Node) (i : ℕ) (x : Node) → i < length ns → x ≡ get_or ns i x
    → nodes_view (drop i ns) ≡ tree (view x) (nodes_view (drop (i + 1) ns))
viewed ns i x h o =
    rw (add-one) (ap nodes_view (drop-cons ns i x h))
    ∙ ap (λ (y : Node). tree (view y) (nodes_view (drop (i + 1) ns))) (sym o)

behind_segment : (s : Slot) (n : ℕ) → n ≢ 0 → found_in (segment s) n ≡ behind (n - 1)
behind_segment s zero h = absurd (h refl)
behind_segment s (suc n) h = let e : n ≡ suc n - 1 = omega arith in ap behind e

in_loop : (l : Loop) (ts : Trees) (n : ℕ) → n ≢ 0 → found_in (loop l ts) n ≡ found ts (n - 1)
in_loop l ts zero h = absurd (h refl)
in_loop l ts (suc n) h = let e : n ≡ suc n - 1 = omega arith in ap (found ts) e

-- the node itself
pub here : (ns : List Node) (i left : ℕ) (x : Node) → i < length ns → x ≡ get_or ns i x → left ≡ 0
    → found (nodes_view (drop i ns)) left ≡ at (view x)
here ns i left x h o e =
    ap (λ (ts : Trees). found ts left) (viewed ns i x h o)
    ∙ ap (λ (n : ℕ). found (tree (view x) (nodes_view (drop (i + 1) ns))) n) e

by : (ns : List Node) (i left : ℕ) (x : Node) (f : Found) → i < length ns → x ≡ get_or ns i x → found_in (view x) left ≡ f
    → found (nodes_view (drop i ns)) left ≡ or_in f (found (nodes_view (drop (i + 1) ns)))
by ns i left x f h o e =
    ap (λ (ts : Trees). found ts left) (viewed ns i x h o)
    ∙ ap (λ (g : Found). or_in g (found (nodes_view (drop (i + 1) ns)))) e

-- after a segment
pub past_segment : (ns : List Node) (i left : ℕ) (x : Node) (s : Slot) → i < length ns → x ≡ get_or ns i x → left ≢ 0
    → view x ≡ segment s → found (nodes_view (drop (i + 1) ns)) (left - 1) ≡ found (nodes_view (drop i ns)) left
past_segment ns i left x s h o e v =
    sym (by ns i left x (behind (left - 1)) h o (ap (λ (t : Tree). found_in t left) v ∙ behind_segment s left e))

-- in a loop, or after it
pub at_loop : (ns us : List Node) (i left : ℕ) (x : Node) (l : Loop) (f : Found) → i < length ns → x ≡ get_or ns i x → left ≢ 0
    → view x ≡ loop l (nodes_view us) → f ≡ found (nodes_view us) (left - 1)
    → or_in f (found (nodes_view (drop (i + 1) ns))) ≡ found (nodes_view (drop i ns)) left
at_loop ns us i left x l f h o e v q =
    sym (by ns i left x f h o (ap (λ (t : Tree). found_in t left) v ∙ in_loop l (nodes_view us) left e ∙ sym q))
