-- X12.6, segment: written segments, as the bytes that stand in a file.
use Rattle.std.proofs.Common.{◌≡◌, ℕ, ◌≤◌, false, List, [], ◌∷◌, ◌++◌, length, map, take, refl, sym, ap, ◌∙◌, arith}
use Rattle.std.proofs.Common.{append-nil, length-append}
use Rattle.std.specs.Prelude.{◌==◌, codes}
use Rattle.std.specs.List.{All}
use Rattle.std.specs.Str.{bytes_eq}
use Rattle.std.proofs.lemmas.Bool.{eqb-true, false_from_ne_true}
use Rattle.std.proofs.lemmas.List.{map-append, take-append-le}
use Rattle.std.proofs.lemmas.List.Elements.{All-append, All-cons, All-head, All-nil, All-tail}
use Rattle.std.proofs.lemmas.List.Concat.{flat_map-append}
use Rattle.x12_bytes.specs.declared.delims.Delims.{Delims}
use Rattle.x12_segs.specs.Words.{parts}
use Rattle.x12_write.specs.Segment.{WrittenSegment, elements_text, segment_text, segments_text, trimmed}
use Rattle.x12_write.specs.Undivided.{CanDivide}
use Rattle.ack_999.specs.ReadBack.{written_parts}
use Rattle.ack_999.proofs.ForAbove.{IsReadable}
use Rattle.night_law.proofs.ForAbove.{IsBody, IsDivided, body_of, divided, divided_body, divided_parts}
use Rattle.files_law.specs.Whole.{Elements}
use Rattle.files_law.specs.Written.{BeginsOtherwise, IsOneSegment, segments_in_row}

-- a text is made of segments with these elements, none of which begins as a header
pub record IsRow (d : Delims) (text : List ℕ) (es : List Elements) : Type 0 where
  pub segments : List (List ℕ)
  pub is : text ≡ segments_in_row d segments
  pub each : All (IsOneSegment d) segments
  pub other : All BeginsOtherwise segments
  pub elements : map (parts d.element) segments ≡ es

-- a segment's id doesn't begin as that of a header
pub record IsOther (s : WrittenSegment) : Type 0 where
  pub long : 2 ≤ length s.id
  pub other : bytes_eq (take 2 s.id) (codes "IS") ≡ false

pub no_row : (d : Delims) → IsRow d [] []
no_row d = record { segments = []; is = refl; each = All-nil (IsOneSegment d); other = All-nil BeginsOtherwise; elements = refl }

pub both_rows : (d : Delims) (a b : List ℕ) (xs ys : List Elements) → IsRow d a xs → IsRow d b ys → IsRow d (a ++ b) (xs ++ ys)
both_rows d a b xs ys front back = record {
  segments = front.segments ++ back.segments;
  is = ap (λ (t : List ℕ). t ++ b) front.is ∙ ap (λ (t : List ℕ). segments_in_row d front.segments ++ t) back.is
      ∙ sym (flat_map-append (λ (bytes : List ℕ). bytes ++ d.terminator ∷ []) front.segments back.segments);
  each = All-append (IsOneSegment d) front.segments back.segments front.each back.each;
  other = All-append BeginsOtherwise front.segments back.segments front.other back.other;
  elements = map-append (parts d.element) front.segments back.segments
      ∙ ap (λ (es : List Elements). es ++ map (parts d.element) back.segments) front.elements
      ∙ ap (λ (es : List Elements). xs ++ es) back.elements;
}

pub begins : (d : Delims) (id : List ℕ) (elements : List (List ℕ)) → 2 ≤ length id → bytes_eq (take 2 id) (codes "IS") ≡ false
    → BeginsOtherwise (body_of d id elements)
begins d id elements long other = record {
  long = omega (arith, long, length-append id (elements_text d.element elements));
  other = ap (λ (t : List ℕ). bytes_eq t (codes "IS")) (take-append-le 2 id (elements_text d.element elements) long) ∙ other;
}

pub one_row : (d : Delims) (s : WrittenSegment) → CanDivide d → IsReadable d s → IsOther s
    → IsRow d (segment_text d s.id s.elements) (written_parts s ∷ [])
one_row d s can readable other =
    let is : IsDivided d s.id (trimmed s.elements) = divided d s readable in
    let body : List ℕ = body_of d s.id (trimmed s.elements) in
    let apart : (d.element == d.terminator) ≡ false =
    false_from_ne_true (d.element == d.terminator) (λ h. can.apart (eqb-true d.element d.terminator h)) in
    let b : IsBody d body = divided_body d s.id (trimmed s.elements) apart is in
    record {
      segments = body ∷ [];
      is = sym (append-nil (body ++ d.terminator ∷ []));
      each = All-cons (IsOneSegment d) body [] (record { some = b.some; first = b.first; lacks = b.lacks }) (All-nil (IsOneSegment d));
      other = All-cons BeginsOtherwise body [] (begins d s.id (trimmed s.elements) other.long other.other) (All-nil BeginsOtherwise);
      elements = ap (λ (es : Elements). es ∷ []) (divided_parts d s.id (trimmed s.elements) is);
    }

pub list_row : (d : Delims) (segs : List WrittenSegment) → CanDivide d → All (IsReadable d) segs → All IsOther segs
    → IsRow d (segments_text d segs) (map written_parts segs)
list_row d [] can readable other = no_row d
list_row d (s ∷ segs) can readable other =
    both_rows d (segment_text d s.id s.elements) (segments_text d segs) (written_parts s ∷ []) (map written_parts segs)
    (one_row d s can (All-head (IsReadable d) s segs readable) (All-head IsOther s segs other))
    (list_row d segs can (All-tail (IsReadable d) s segs readable) (All-tail IsOther s segs other))
