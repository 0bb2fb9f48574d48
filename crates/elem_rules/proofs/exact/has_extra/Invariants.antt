use Rattle.std.proofs.Common.{◌≡◌, drop}
use Rattle.x12_segs.specs.Words.{elements_of}
use Rattle.elem_rules.specs.Divided.{has_more}
use Rattle.elem_rules.proofs.exact.has_extra.Given as goal

abbrev pub invariant-loop-k : goal.invariant-loop-k
invariant-loop-k l = has_more l.seg.delims l.n (drop 1 (elements_of l.seg)) ≡ has_more l.seg.delims l.k (drop 1 (elements_of l.seg))
