-- X12.5, interchange control trailer (IEA) of an interchange that is sent.
use Rattle.std.specs.Prelude.{ℕ, List, [], ◌∷◌, codes, decimal}
use Rattle.x12_bytes.specs.declared.delims.Delims.{Delims}
use Rattle.x12_write.specs.Segment.{segment_text}
use Rattle.x12_write.specs.Number.{padded_number}

-- IEA: the number of groups, and the interchange's number in nine digits
abbrev pub trailer_text : Delims → ℕ → ℕ → List ℕ
trailer_text d groups number = segment_text d (codes "IEA") (decimal groups ∷ padded_number 9 number ∷ [])
