-- X12.5, interchange: interchanges that are written one after another.
use Rattle.std.specs.Prelude.{◌≡◌, ℕ, ◌+◌, ◌≤◌, ◌<◌, ◌==◌, true, false, List, [], ◌∷◌, ◌++◌, length, map, take, codes}
use Rattle.std.specs.List.{All, flat_map, prefix_len}
use Rattle.std.specs.Str.{bytes_eq}
use Rattle.x12_bytes.specs.Bytes.{is_line_end}
use Rattle.x12_bytes.specs.HeaderTest.{is_head}
use Rattle.x12_bytes.specs.declared.delims.Delims.{Delims}
use Rattle.x12_bytes.specs.declared.layout.TheConstants.{HEADER_LEN}
use Rattle.x12_segs.specs.Words.{Seg, may_stand_in_set, kind_of, parts, segs_within, view_of}
use Rattle.moment.specs.Moment.{IsMoment}
use Rattle.x12_write.specs.declared.envelope.Envelope.{Envelope}
use Rattle.x12_write.specs.Header.{header_text}
use Rattle.x12_write.specs.Sendable.{IsSendable}
use Rattle.files_law.specs.Whole.{IsWhole, Whole, whole_segments}

-- bytes that are one segment without its terminator: some, the first of them no CR or LF, none the terminator
pub record IsOneSegment (d : Delims) (bytes : List ℕ) : Type 0 where
  pub some : 0 < length bytes
  pub first : prefix_len is_line_end bytes ≡ 0
  pub lacks : All (λ b. (b == d.terminator) ≡ false) bytes

-- segments, each with its terminator
abbrev pub segments_in_row : Delims → List (List ℕ) → List ℕ
segments_in_row d segments = flat_map (λ bytes. bytes ++ d.terminator ∷ []) segments

-- an interchange that is written: its header, and the bytes of the segments after it
pub record Written : Type 0 where
  pub envelope : Envelope
  pub at : List ℕ
  pub number : ℕ
  pub segments : List (List ℕ)
  pub whole : Whole

abbrev pub written_text : Written → List ℕ
written_text w = header_text w.envelope w.at w.number ++ segments_in_row w.envelope.delims w.segments

abbrev pub texts_of : List Written → List (List ℕ)
texts_of ws = map written_text ws

-- its envelope can be sent, its number has up to nine digits, and its segments are a whole interchange
pub record IsWritten (w : Written) : Type 0 where
  pub sendable : IsSendable w.envelope
  pub moment : IsMoment w.at
  pub nine : w.number ≤ 999999999
  pub each : All (IsOneSegment w.envelope.delims) w.segments
  pub elements : map (parts w.envelope.delims.element) w.segments ≡ whole_segments w.whole
  pub whole : IsWhole w.number w.whole

-- no header begins where one of these segments does, the first of them at this offset
abbrev pub NoHeads : (file : List ℕ) → (from : ℕ) → List (List ℕ) → Type 0
NoHeads file from [] = Unit {0}
NoHeads file from (segment ∷ segments) = (is_head file from ≡ false) × NoHeads file (from + length segment + 1) segments

-- nor in any of these interchanges, the first of them at this offset
abbrev pub AreClear : (file : List ℕ) → (from : ℕ) → List Written → Type 0
AreClear file from [] = Unit {0}
AreClear file from (w ∷ ws) = NoHeads file (from + HEADER_LEN) w.segments × AreClear file (from + length (written_text w)) ws

-- no header begins at a segment of these interchanges that may be between ST and SE, as they are read by these delimiters after their
-- headers, the first of them at this offset
abbrev pub NoInnerHeads : Delims → (file : List ℕ) → (from : ℕ) → List (List ℕ) → Type 0
NoInnerHeads d file from [] = Unit {0}
NoInnerHeads d file from (text ∷ texts) =
    All (λ (seg : Seg). may_stand_in_set (kind_of (view_of d seg)) ≡ true → is_head file seg.start ≡ false)
    (segs_within file d.terminator (from + HEADER_LEN) (from + length text))
    × NoInnerHeads d file (from + length text) texts

-- bytes that don't begin as a header
pub record BeginsOtherwise (bytes : List ℕ) : Type 0 where
  pub long : 2 ≤ length bytes
  pub other : bytes_eq (take 2 bytes) (codes "IS") ≡ false
