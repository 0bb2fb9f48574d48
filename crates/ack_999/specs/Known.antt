-- 999 guide (005010X231), ST, and IK5 without codes: segments of which all but a number or a verdict is known. Private.
use Rattle.std.specs.Prelude.{ℕ, [], ◌∷◌, codes}
use Rattle.hub_kinds.specs.Words.{verdict_text}
use Rattle.hub_kinds.specs.declared.set_codes.Verdict.{Verdict}
use Rattle.x12_write.specs.Number.{set_number}
use Rattle.x12_write.specs.Segment.{WrittenSegment, segment}

abbrev pub set_header : ℕ → WrittenSegment
set_header n = segment (codes "ST") (codes "999" ∷ set_number n ∷ codes "005010X231" ∷ [])

abbrev pub bare_response : Verdict → WrittenSegment
bare_response verdict = segment (codes "IK5") (verdict_text verdict ∷ [])
