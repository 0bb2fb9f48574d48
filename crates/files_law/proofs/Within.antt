-- X12.5, interchange control header: interchanges of which no segment is a header, as their segments are read.
use Rattle.std.proofs.Common.{◌≡◌, ℕ, ◌+◌, Bool, true, false, List, [], ◌∷◌, ◌++◌, length, drop, take, refl, sym, ap, subst, ◌∙◌}
use Rattle.std.proofs.Common.{append_assoc, append-nil, length-append}
use Rattle.std.specs.List.{All}
use Rattle.std.proofs.lemmas.List.Elements.{All-head, All-tail}
use Rattle.x12_bytes.specs.HeaderTest.{is_head}
use Rattle.x12_bytes.specs.declared.delims.Delims.{Delims}
use Rattle.x12_segs.specs.Words.{Seg, may_stand_in_set, kind_of, parts, segs_from, segs_within, view_of}
use Rattle.files_law.specs.Whole.{kind_by}
use Rattle.x12_write.specs.Group.{texts_in_row}
use Rattle.x12_write.specs.Header.{header_text}
use Rattle.files_law.specs.Written.{AreClear, IsOneSegment, IsWritten, NoHeads, NoInnerHeads, Written, segments_in_row, texts_of}
use Rattle.files_law.specs.Written.{written_text}
use Rattle.files_law.proofs.Clear.{no_head}
use Rattle.files_law.proofs.Control.{control_otherwise}
use Rattle.files_law.proofs.Interchanges.{left as stands}
use Rattle.files_law.proofs.SegmentRows.{behind_it, first_seg, kind_is, seg_in, shape}
use Rattle.files_law.proofs.Sending.{dropped_front, header_length}

taken_front : (xs ys : List ℕ) → take (length xs) (xs ++ ys) ≡ xs
taken_front [] ys = refl
taken_front (x ∷ xs) ys = ap (λ (zs : List ℕ). x ∷ zs) (taken_front xs ys)

abbrev IsClearSeg : Delims → List ℕ → Seg → Type 0
IsClearSeg d file seg = may_stand_in_set (kind_of (view_of d seg)) ≡ true → is_head file seg.start ≡ false

-- a segment that may stand between ST and SE, or that begins otherwise than a header
seg_clear : (d : Delims) (file : List ℕ) (place : ℕ) (bytes behind : List ℕ) → drop place file ≡ bytes ++ behind
    → IsClearSeg d file (record { start = place; bytes = bytes }) → is_head file place ≡ false
seg_clear d file place bytes behind is clear = by (may_stand_in_set (kind_by (parts d.element bytes))) refl
  where
    by : (b : Bool) → may_stand_in_set (kind_by (parts d.element bytes)) ≡ b → is_head file place ≡ false
    by true inner = clear (ap may_stand_in_set (sym (kind_is (seg_in d place bytes))) ∙ inner)
    by false control = no_head file place bytes behind is (control_otherwise d.element bytes control)

rows_clear : (file read : List ℕ) (d : Delims) (place : ℕ) (segments : List (List ℕ)) (behind : List ℕ)
    → drop place read ≡ segments_in_row d segments ++ [] → drop place file ≡ segments_in_row d segments ++ behind
    → All (IsOneSegment d) segments → All (IsClearSeg d file) (segs_from read d.terminator place) → NoHeads file place segments
rows_clear file read d place [] behind is there each none = tt
rows_clear file read d place (segment ∷ segments) behind is there each none =
    let P : Seg → Type 0 = IsClearSeg d file in
    let rest : List ℕ = segments_in_row d segments in
    let next : ℕ = place + length segment + 1 in
    let here : drop place read ≡ segment ++ (d.terminator ∷ (rest ++ [])) = is ∙ shape read d segment rest [] in
    let stands : drop place file ≡ segment ++ (d.terminator ∷ (rest ++ behind)) = there ∙ shape file d segment rest behind in
    let one : Seg = record { start = place; bytes = segment } in
    let split : segs_from read d.terminator place ≡ one ∷ segs_from read d.terminator next =
    first_seg read d place segment (rest ++ []) here (All-head (IsOneSegment d) segment segments each) in
    let all : All P (one ∷ segs_from read d.terminator next) = subst (All P) split none in (
      seg_clear d file place segment (d.terminator ∷ (rest ++ behind)) stands (All-head P one (segs_from read d.terminator next) all),
      rows_clear file read d next segments behind (behind_it read d place segment (rest ++ []) here)
          (behind_it file d place segment (rest ++ behind) stands)
          (All-tail (IsOneSegment d) segment segments each) (All-tail P one (segs_from read d.terminator next) all),
    )

one_clear : (file before behind : List ℕ) (w : Written) → file ≡ before ++ (written_text w ++ behind) → IsWritten w
    → All (IsClearSeg w.envelope.delims file)
    (segs_within file w.envelope.delims.terminator (length before + 106) (length before + length (written_text w)))
    → NoHeads file (length before + 106) w.segments
one_clear file before behind w is written none =
    let text : List ℕ = written_text w in
    let h : List ℕ = header_text w.envelope w.at w.number in
    let rows : List ℕ = segments_in_row w.envelope.delims w.segments in
    let size : length h ≡ 106 = header_length w.envelope w.at w.number written.sendable written.moment written.nine in
    let long : length (before ++ h) ≡ length before + 106 = length-append before h ∙ ap (λ (n : ℕ). length before + n) size in
    let read : List ℕ = take (length before + length text) file in
    let shown : read ≡ (before ++ h) ++ rows =
    ap (λ (n : ℕ). take n file) (sym (length-append before text))
    ∙ ap (take (length (before ++ text))) (is ∙ sym (append_assoc before text behind))
    ∙ taken_front (before ++ text) behind ∙ sym (append_assoc before h rows) in
    let left : drop (length before + 106) read ≡ rows ++ [] =
    ap (λ (n : ℕ). drop n read) (sym long) ∙ ap (drop (length (before ++ h))) shown ∙ dropped_front (before ++ h) rows
    ∙ sym (append-nil rows) in
    rows_clear file read w.envelope.delims (length before + 106) w.segments behind left (stands file before behind w is written)
    written.each none

within_from : (d : Delims) (file before : List ℕ) (ws : List Written) → file ≡ before ++ texts_in_row (texts_of ws) → All IsWritten ws
    → All (λ (w : Written). w.envelope.delims ≡ d) ws → NoInnerHeads d file (length before) (texts_of ws)
    → AreClear file (length before) ws
within_from d file before [] is written same none = tt
within_from d file before (w ∷ ws) is written same none =
    let text : List ℕ = written_text w in
    let rest : List ℕ = texts_in_row (texts_of ws) in
    let S : Written → Type 0 = λ v. v.envelope.delims ≡ d in
    let long : length (before ++ text) ≡ length before + length text = length-append before text in
    let own : d ≡ w.envelope.delims = sym (All-head S w ws same) in (
      one_clear file before rest w is (All-head IsWritten w ws written)
          (subst (λ (e : Delims). All (IsClearSeg e file)
          (segs_within file e.terminator (length before + 106) (length before + length text))) own none.0),
      subst (λ (n : ℕ). AreClear file n ws) long
          (within_from d file (before ++ text) ws (is ∙ sym (append_assoc before text rest)) (All-tail IsWritten w ws written)
          (All-tail S w ws same) (subst (λ (n : ℕ). NoInnerHeads d file n (texts_of ws)) (sym long) none.1)),
    )

pub within_clear : (d : Delims) (ws : List Written) → All IsWritten ws → All (λ (w : Written). w.envelope.delims ≡ d) ws
    → NoInnerHeads d (texts_in_row (texts_of ws)) 0 (texts_of ws) → AreClear (texts_in_row (texts_of ws)) 0 ws
within_clear d ws written same none = within_from d (texts_in_row (texts_of ws)) [] ws refl written same none
