-- A guide whose reference numbers can be quoted and that is accepted has no delimiter in its names: ids of loops are words.
use Rattle.std.proofs.Common.{◌≡◌, ℕ, inl, inr, refl}
use Rattle.std.specs.Prelude.{IsFalse}
use Rattle.std.specs.List.{All}
use Rattle.std.proofs.lemmas.Bool.{and_parts, true_from_ne_false}
use Rattle.x12_bytes.specs.declared.delims.Delims.{Delims}
use Rattle.x12_write.specs.Undivided.{CanDivide, IsUndivided}
use Rattle.guide_tree.specs.declared.fault.GuideFault.TheVariants as fault
use Rattle.guide_tree.specs.declared.node.Loop.{Loop}
use Rattle.guide_tree.specs.Words.{is_bounded, is_loop_id, is_use_range, IsWellFormed, AnyIn, AnyNode, EachIn, EachNode, GuideTree, Tree}
use Rattle.guide_tree.specs.Words.{Trees, loop, no_trees, node_number, segment, tree}
use Rattle.night_law.specs.Quotable.{IsGuideQuotable, IsNodeQuotable, IsRowQuotable}
use Rattle.night_law.proofs.QuotedElements.{word_undivided}

-- neither the element separator nor the terminator stands in the reference numbers of a guide's rows, nor in the ids of its loops
abbrev mutual
  pub IsNodeNamed : Delims → Tree → Type 0
  IsNodeNamed d (segment s) = All (IsRowQuotable d) s.elements
  IsNodeNamed d (loop l ts) = IsUndivided d l.id × AreNodesNamed d ts

  pub AreNodesNamed : Delims → Trees → Type 0
  AreNodesNamed d no_trees = Unit {0}
  AreNodesNamed d (tree t ts) = IsNodeNamed d t × AreNodesNamed d ts

abbrev pub IsGuideNamed : Delims → GuideTree → Type 0
IsGuideNamed d g = AreNodesNamed d g.nodes

-- a node fails the bounds
abbrev Fails : ℕ → Tree → Type 0
Fails k t = (node_number t ≡ k) × IsFalse (is_bounded t)

module _ (d : Delims) (can : CanDivide d) where
  loop_named : (l : Loop) (ts : Trees) → (Fails l.number (loop l ts) → ⊥) → IsUndivided d l.id
  loop_named l ts sound =
      let bounded = true_from_ne_false (is_bounded (loop l ts)) (λ no. sound (refl, no)) in
      word_undivided d can 1 4 l.id (and_parts (is_use_range l.min l.max) (is_loop_id l.id) bounded).1

  mutual
    node_named : (t : Tree) → ((k : ℕ) → AnyIn (Fails k) t → ⊥) → EachIn (IsNodeQuotable d) t → IsNodeNamed d t
    node_named (segment s) sound quotable = quotable
    node_named (loop l ts) sound quotable =
        (loop_named l ts (λ fails. sound l.number (inl fails)), nodes_named ts (λ k any. sound k (inr any)) quotable.1)

    nodes_named : (ts : Trees) → ((k : ℕ) → AnyNode (Fails k) ts → ⊥) → EachNode (IsNodeQuotable d) ts → AreNodesNamed d ts
    nodes_named no_trees sound quotable = tt
    nodes_named (tree t ts) sound quotable =
        (node_named t (λ k any. sound k (inl any)) quotable.0, nodes_named ts (λ k any. sound k (inr any)) quotable.1)

  pub guide_named : (g : GuideTree) → IsWellFormed g → IsGuideQuotable d g → IsGuideNamed d g
  guide_named g sound quotable = nodes_named g.nodes (λ k fails. sound (fault.BadBounds k) fails) quotable
