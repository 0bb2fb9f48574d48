-- X12.5, interchange: its end in words of offsets, the least of three (own where the IEA is missing).
use Rattle.std.specs.Prelude.{◌≡◌, ℕ, ◌+◌, ◌≤◌, ◌⊎◌, List, length, Contains, true}
use Rattle.x12_bytes.specs.Header.{header_at, header_delims}
use Rattle.x12_bytes.specs.HeaderTest.{is_head}
use Rattle.x12_bytes.specs.declared.layout.TheConstants.{HEADER_LEN}
use Rattle.x12_bytes.specs.declared.delims.Delims.{Delims}
use Rattle.x12_segs.specs.Words.{Seg, segs_from, rest_from, view_of, kind_of}
use Rattle.x12_segs.specs.declared.kind.Kind.TheVariants.{InterchangeTrailer}

-- the offset after the terminator of an IEA
abbrev pub IsBehindTrailer : Delims → List Seg → ℕ → Type 0
IsBehindTrailer delims segs q =
    (seg : Seg) × Contains segs seg × (kind_of (view_of delims seg) ≡ InterchangeTrailer) × (q ≡ seg.start + length seg.bytes + 1)

-- where a segment or the rest begins, after its CR and LF, and a header with it
abbrev pub IsPartAtHeader : List ℕ → List Seg → Seg → ℕ → Type 0
IsPartAtHeader text segs rest q = (is_head text q ≡ true) × (((seg : Seg) × Contains segs seg × (q ≡ seg.start)) ⊎ (q ≡ rest.start))

-- an offset at which an interchange may end that has these segments and this rest after its header
abbrev pub MayEnd : List ℕ → Delims → List Seg → Seg → ℕ → Type 0
MayEnd text delims segs rest q = IsBehindTrailer delims segs q ⊎ IsPartAtHeader text segs rest q ⊎ (q ≡ length text)

-- the least of them, after the header that begins at an offset
pub record IsLeastEnd (text : List ℕ) (delims : Delims) (from end : ℕ) : Type 0 where
  pub may : MayEnd text delims (segs_from text delims.terminator from) (rest_from text delims.terminator from) end
  pub least : (q : ℕ) → MayEnd text delims (segs_from text delims.terminator from) (rest_from text delims.terminator from) q → end ≤ q

abbrev pub EndsLeast : List ℕ → ℕ → ℕ → Type 0
EndsLeast text start end = IsLeastEnd text (header_delims (header_at text start)) (start + HEADER_LEN) end
