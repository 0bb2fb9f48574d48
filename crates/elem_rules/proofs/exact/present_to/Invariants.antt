use Rattle.std.proofs.Common.{◌≡◌}
use Rattle.guide_tree.specs.Words.{element_at}
use Rattle.x12_segs.specs.Words.{elements_of}
use Rattle.elem_rules.specs.Clean.{bits_to, has_bytes}
use Rattle.elem_rules.proofs.exact.present_to.Given as goal

abbrev pub invariant-loop-k : goal.invariant-loop-k
invariant-loop-k l = l.present ≡ bits_to (λ k. has_bytes (element_at (elements_of l.seg) k)) l.k
