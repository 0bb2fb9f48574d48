-- X12.6, segment: a text that is made of the bytes of segments, with their elements.
use Rattle.std.proofs.Common.{◌≡◌, ℕ, List, [], ◌∷◌, ◌++◌, map, refl, sym, ap, ◌∙◌}
use Rattle.std.specs.List.{All}
use Rattle.std.proofs.lemmas.List.{map-append}
use Rattle.std.proofs.lemmas.List.Concat.{flat_map-append}
use Rattle.std.proofs.lemmas.List.Elements.{All-append, All-nil, All-weaker}
use Rattle.x12_bytes.specs.declared.delims.Delims.{Delims}
use Rattle.x12_segs.specs.Words.{parts}
use Rattle.night_law.proofs.ForAbove.{IsBody, bodies_text}
use Rattle.files_law.specs.Whole.{Elements}
use Rattle.files_law.specs.Written.{IsOneSegment}
use Rattle.files_law.proofs.Rows.{IsRow}

pub record IsMadeOf (d : Delims) (text : List ℕ) (es : List Elements) : Type 0 where
  pub bodies : List (List ℕ)
  pub is : text ≡ bodies_text d bodies
  pub all : All (IsBody d) bodies
  pub elements : map (parts d.element) bodies ≡ es

pub nothing_made : (d : Delims) → IsMadeOf d [] []
nothing_made d = record { bodies = []; is = refl; all = All-nil (IsBody d); elements = refl }

pub both_made : (d : Delims) (a b : List ℕ) (xs ys : List Elements) → IsMadeOf d a xs → IsMadeOf d b ys → IsMadeOf d (a ++ b) (xs ++ ys)
both_made d a b xs ys front back = record {
  bodies = front.bodies ++ back.bodies;
  is = ap (λ (t : List ℕ). t ++ b) front.is ∙ ap (λ (t : List ℕ). bodies_text d front.bodies ++ t) back.is
      ∙ sym (flat_map-append (λ (body : List ℕ). body ++ d.terminator ∷ []) front.bodies back.bodies);
  all = All-append (IsBody d) front.bodies back.bodies front.all back.all;
  elements = map-append (parts d.element) front.bodies back.bodies
      ∙ ap (λ (es : List Elements). es ++ map (parts d.element) back.bodies) front.elements
      ∙ ap (λ (es : List Elements). xs ++ es) back.elements;
}

-- so is a row
pub row_made : (d : Delims) (text : List ℕ) (es : List Elements) → IsRow d text es → IsMadeOf d text es
row_made d text es row = record {
  bodies = row.segments;
  is = row.is;
  all = All-weaker (IsOneSegment d) (IsBody d) (λ bytes one. record { some = one.some; first = one.first; lacks = one.lacks })
      row.segments row.each;
  elements = row.elements;
}

pub one_segments : (d : Delims) (bodies : List (List ℕ)) → All (IsBody d) bodies → All (IsOneSegment d) bodies
one_segments d bodies all =
    All-weaker (IsBody d) (IsOneSegment d) (λ bytes one. record { some = one.some; first = one.first; lacks = one.lacks }) bodies all
