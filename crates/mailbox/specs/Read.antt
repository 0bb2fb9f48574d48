-- Private. What a set has between ST and SE, as it is read.
use Rattle.std.specs.Prelude.{ℕ, List, [], ◌∷◌, ◌++◌}
use Rattle.x12_bytes.specs.declared.delims.Delims.{Delims}
use Rattle.x12_segs.specs.Words.{SegValue}

-- a segment with the terminator of its text
abbrev pub text_as_read : Delims → SegValue → List ℕ
text_as_read from seg = seg.bytes ++ from.terminator ∷ []
