use Rattle.memchr.specs.Find.{Nowhere, Passes, is_byte}
use Rattle.x12_segs.proofs.kind.short_id.Given as goal

abbrev pub invariant-loop-at : goal.invariant-loop-at
invariant-loop-at l = Nowhere (Passes (is_byte l.element) l.bytes) 0 l.at
