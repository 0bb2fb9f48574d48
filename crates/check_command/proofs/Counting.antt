-- How many nodes are left of a list that is gone over.
use Rattle.std.proofs.Common.{◌≡◌, ◌∙◌, ℕ, ◌+◌, ◌<◌, List, length, get_or, drop, sym, ap, add-one, arith, drop-cons, rules}
use Rattle.std.specs.Prelude.{Vec}
use Rattle.std.specs.declared.alloc.Global.{Global}
use Rattle.guide_tree.specs.declared.node.Loop.{Loop}
use Rattle.guide_tree.specs.declared.node.Node.{Node, the_lemmas}
use Rattle.guide_tree.specs.declared.node.Node as node
use Rattle.guide_tree.specs.declared.fault.GuideFault.TheVariants as fault
use Rattle.guide_tree.specs.declared.rows.GuideRows.{GuideRows}
use Rattle.guide_tree.specs.declared.slot.Slot.{Slot}
use Rattle.guide_tree.specs.Accepted.{IsAccepted}
use Rattle.guide_tree.specs.Words.{count_in, loop, node_count, nodes_view, segment, view}

view_loop : (n : Node) (l : Loop) (ns : Vec Node Global) → n ≡ node.Loop l ns → view n ≡ loop l (nodes_view ns.items)
view_loop n l ns e = ap view e ∙ (let v : view (node.Loop l ns) ≡ loop l (nodes_view ns.items) = search (rules, the_lemmas) in v)

view_segment : (n : Node) (s : Slot) → n ≡ node.Segment s → view n ≡ segment s
view_segment n s e = ap view e ∙ (let v : view (node.Segment s) ≡ segment s = search (rules, the_lemmas) in v)

pub of_loop : (n : Node) (l : Loop) (ns : Vec Node Global) (us : List Node) → n ≡ node.Loop l ns → us ≡ ns.items
    → count_in (view n) ≡ node_count (nodes_view us) + 1
of_loop n l ns us e o =
    ap count_in (view_loop n l ns e) ∙ ap (λ (xs : List Node). node_count (nodes_view xs) + 1) (sym o)

pub of_segment : (n : Node) (s : Slot) → n ≡ node.Segment s → count_in (view n) ≡ 1
of_segment n s e = ap count_in (view_segment n s e)

pub left : (ns : List Node) (i : ℕ) (x : Node) → i < length ns → x ≡ get_or ns i x
    → node_count (nodes_view (drop i ns)) ≡ count_in (view x) + node_count (nodes_view (drop (i + 1) ns))
left ns i x h o =
    rw (add-one) (ap (λ (xs : List Node). node_count (nodes_view xs)) (drop-cons ns i x h))
    ∙ ap (λ (y : Node). count_in (view y) + node_count (nodes_view (drop (i + 1) ns))) (sym o)

-- a guide that was accepted has few nodes
pub few : (g rows : GuideRows) (ns : List Node) → rows ≡ g → IsAccepted g → ns ≡ rows.nodes.items
    → node_count (nodes_view ns) < 4294967296
few g rows ns same accepted is =
    let most : 2000 < node_count (nodes_view g.nodes.items) → ⊥ = accepted.well_formed fault.TooMany in
    let e = ap (λ (xs : List Node). node_count (nodes_view xs)) is in
    let f = ap (λ (r : GuideRows). node_count (nodes_view r.nodes.items)) same in
    omega (arith, most)
