-- The number of a set's document is the same.
use Rattle.std.proofs.Common.{◌≡◌, ℕ, List, [], ◌∷◌, ◌++◌, map, Bool, true, false, Option, Some, None, refl, sym, ap, ◌∙◌, subst}
use Rattle.std.proofs.lemmas.List.{map-append}
use Rattle.std.specs.Prelude.{if◌then◌else◌, bytes_eq, option_map, is_some, drop}
use Rattle.std.specs.Option.{option_map_or}
use Rattle.x12_bytes.specs.declared.delims.Delims.{Delims}
use Rattle.x12_segs.specs.Words.{SegValue, elements_of, span_views}
use Rattle.env_index.specs.Words as then
use Rattle.env_index.specs.declared.entry.SetEnvelope.{SetEnvelope}
use Rattle.set_check.specs.SetParts.{inner_of, parts_of, set_parts, set_trailer_of}
use Rattle.set_documents.specs.Documents.{DocumentValue, document_for}
use Rattle.set_documents.specs.Documents as old
use Rattle.night_law.proofs.ForAbove.{IsThere}
use Rattle.night_definition.specs.Segments.{Elements, Segment, element}
use Rattle.night_definition.specs.Envelopes.{Set}
use Rattle.night_equal_text.specs.Seen.{seen}
use Rattle.night_equal_text.specs.Spanned.{IsSetOf}
use Rattle.night_equal_text.proofs.ForAbove.{inner_is, trailer_is}
use Rattle.track_definition.specs.Cells as room

abbrev pub elements_in : List Segment → List Elements
elements_in ss = map (λ (s : Segment). s.elements) ss

abbrev one_or_none : Option Segment → List Segment
one_or_none o = option_map_or (λ (se : Segment). se ∷ []) o []

last_is : (o : Option SegValue) → elements_in (one_or_none (option_map seen o)) ≡ map elements_of (then.option_items o)
last_is None = refl
last_is (Some s) = refl

-- by the parts of a set that stands alone
module _ (d : Delims) (t : then.Set SegValue) (s : Set) (is : IsSetOf s (parts_of d (is_some t.trailer) (then.set_items t))) where
  segments_are : elements_in (room.segments_after s) ≡ map elements_of (drop 1 (then.set_items t))
  segments_are =
      map-append (λ (s : Segment). s.elements) s.inner (one_or_none s.trailer)
      ∙ ap (λ (es : List Elements). es ++ elements_in (one_or_none s.trailer))
      (is.body ∙ ap (map elements_of) (inner_is t.header t.inner t.trailer))
      ∙ ap (λ (o : Option Segment). map elements_of t.inner ++ elements_in (one_or_none o))
      (is.trailer ∙ ap (option_map seen) (trailer_is t.header t.inner t.trailer))
      ∙ ap (λ (es : List Elements). map elements_of t.inner ++ es) (last_is t.trailer)
      ∙ sym (map-append elements_of t.inner (then.option_items t.trailer))

pub after_are : (text : List ℕ) (d : Delims) (e : SetEnvelope) (s : Set) → IsThere text d e → IsSetOf s (set_parts text (then.span_of d e))
    → elements_in (room.segments_after s) ≡ map elements_of (drop 1 (span_views text (then.span_of d e)))
after_are text d e s there is =
    let t : then.Set SegValue = there.tree in
    let here : SetEnvelope → Type 0 =
    λ e. elements_in (room.segments_after s) ≡ map elements_of (drop 1 (span_views text (then.span_of d e))) in
    let of_tree : IsSetOf s (set_parts text (then.span_of d (then.set_entry t))) =
    subst (λ e. IsSetOf s (set_parts text (then.span_of d e))) there.is is in
    subst here (sym there.is)
    (segments_are d t s (subst (λ segs. IsSetOf s (parts_of d (is_some t.trailer) segs)) there.alone.segs of_tree)
    ∙ ap (λ (segs : List SegValue). map elements_of (drop 1 segs)) (sym there.alone.segs))

-- the first segment with an id, by the elements of segments
abbrev number_by : DocumentValue → List Elements → List ℕ
number_by d [] = []
number_by d (es ∷ more) = if bytes_eq (element 0 es) d.segment then element d.element es else number_by d more

old_is : (d : DocumentValue) (segs : List SegValue) → old.number_in d segs ≡ number_by d (map elements_of segs)
old_is d [] = refl
old_is d (s ∷ segs) =
    ap (λ (n : List ℕ). if bytes_eq (element 0 (elements_of s)) d.segment then element d.element (elements_of s) else n) (old_is d segs)

room_is : (d : DocumentValue) (ss : List Segment) → room.number_in d ss ≡ number_by d (elements_in ss)
room_is d [] = refl
room_is d (s ∷ ss) =
    ap (λ (n : List ℕ). if bytes_eq (element 0 s.elements) d.segment then element d.element s.elements else n) (room_is d ss)

pub number_is : (documents : List DocumentValue) (s : Set) (segs : List SegValue)
    → elements_in (room.segments_after s) ≡ map elements_of segs
    → old.document_number documents (element 1 s.header.elements) segs ≡ room.document_number documents s
number_is documents s segs same = by (document_for documents (element 1 s.header.elements))
  where
    by : (o : Option DocumentValue) → old.number_by o segs ≡ option_map_or (λ d. room.number_in d (room.segments_after s)) o []
    by None = refl
    by (Some d) = old_is d segs ∙ ap (number_by d) (sym same) ∙ sym (room_is d (room.segments_after s))
