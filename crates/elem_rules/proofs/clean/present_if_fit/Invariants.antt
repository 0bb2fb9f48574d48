use Rattle.std.proofs.Common.{◌≡◌, ℕ, ◌≤◌, drop}
use Rattle.std.specs.Prelude.{Some, IsTrue}
use Rattle.guide_tree.specs.declared.element.Element.{Element}
use Rattle.guide_tree.specs.Words.{element_at}
use Rattle.x12_segs.specs.Words.{elements_of}
use Rattle.elem_rules.specs.Rows.{nth}
use Rattle.elem_rules.specs.Clean.{fits, bits_to, has_bytes}
use Rattle.elem_rules.proofs.clean.present_if_fit.Given as goal

abbrev pub invariant-loop-k : goal.invariant-loop-k
invariant-loop-k l = record {
  left : l.parts ≡ drop l.k (drop 1 (elements_of l.seg));
  fit : (k : ℕ) (row : Element) → k ≤ l.k → nth l.rows k ≡ Some row → IsTrue (fits row (element_at (elements_of l.seg) k));
  bits : l.present ≡ bits_to (λ k. has_bytes (element_at (elements_of l.seg) k)) l.k;
}
