-- X12.6, transaction set: a delivered set, as a whole set.
use Rattle.std.proofs.Common.{◌≡◌, ℕ, ◌≤◌, Bool, true, false, List, [], ◌∷◌, ◌++◌, map, take, drop, refl, ap, ◌∙◌}
use Rattle.std.specs.Prelude.{codes, if◌then◌else◌}
use Rattle.std.specs.Char.{is_ascii_alphanumeric}
use Rattle.std.specs.List.{All, list_all}
use Rattle.std.specs.Str.{bytes_eq}
use Rattle.std.proofs.lemmas.Bool.{and_from}
use Rattle.std.proofs.lemmas.List.{map-append}
use Rattle.std.proofs.lemmas.List.Elements.{All-from_recursion, All-head, All-tail, All-weaker}
use Rattle.x12_bytes.specs.declared.delims.Delims.{Delims}
use Rattle.hub_kinds.specs.Words.{is_word}
use Rattle.x12_segs.specs.declared.kind.Kind.TheVariants.{InterchangeTrailer, GroupHeader, GroupTrailer, SetHeader, SetTrailer, Ta1, Other}
use Rattle.x12_segs.specs.Words.{may_stand_in_set, kind_by_id, kind_of, parts, SegValue, elements_of, part_or_empty}
use Rattle.x12_write.specs.Number.{set_number}
use Rattle.x12_write.specs.Undivided.{CanDivide}
use Rattle.mailbox.specs.Deliveries.{inner_in}
use Rattle.answered_sets.specs.Judged.{PlacedValue, delims_in}
use Rattle.mailbox.specs.Mailbox.{mapped, set_text}
use Rattle.night_law.specs.SetsRead.{has_id}
use Rattle.night_law.proofs.ForAbove as set
use Rattle.night_law.proofs.ForAbove.{IsFit, IsMarked, all_both, divided_parts, inner_id}
use Rattle.files_law.specs.Whole.{Elements, IsWholeSet, WholeSet, is_st, kind_by, set_segments}
use Rattle.files_law.proofs.Digits.{padded_word}
use Rattle.files_law.proofs.Texts.{IsMadeOf}

-- an id that is none of a control segment but TA1
inner_kind : (a b c d e f : Bool) → a ≡ false → b ≡ false → c ≡ false → d ≡ false → e ≡ false
    → may_stand_in_set (if a then InterchangeTrailer else if b then GroupHeader else if c then GroupTrailer else if d then SetHeader
    else if e then SetTrailer else if f then Ta1 else Other) ≡ true
inner_kind false false false false false true na nb nc nd ne = refl
inner_kind false false false false false false na nb nc nd ne = refl
inner_kind true b c d e f na nb nc nd ne = cc
inner_kind false true c d e f na nb nc nd ne = cc
inner_kind false false true d e f na nb nc nd ne = cc
inner_kind false false false true e f na nb nc nd ne = cc
inner_kind false false false false true f na nb nc nd ne = cc

-- ST, where its first element is kept as it is
st_form : (es : List (List ℕ)) (change : List ℕ → List ℕ) (number : List ℕ) → ((x : List ℕ) → is_word 3 3 x ≡ true → change x ≡ x)
    → is_word 3 3 (part_or_empty es 1) ≡ true → is_word 1 9 number ≡ true
    → is_st (codes "ST" ∷ (map change (take 1 (drop 1 es)) ++ number ∷ map change (drop 2 (drop 1 es)))) ≡ true
st_form [] change number keeps first second = cc
st_form (a ∷ []) change number keeps first second = cc
st_form (a ∷ b ∷ rest) change number keeps first second =
    and_from (is_word 3 3 (change b)) (is_word 1 9 number) (ap (is_word 3 3) (keeps b first) ∙ first) second

module _ (to : Delims) (marked : IsMarked to) (can : CanDivide to) (p : PlacedValue) (fit : IsFit to p) (n : ℕ) where
  abbrev from : Delims
  from = delims_in p

  abbrev inner : List SegValue
  inner = inner_in p

  -- ST, what stands between, and SE, as they are written
  abbrev st : Elements
  st = codes "ST" ∷ set.st_elements to marked can p fit n

  abbrev found_in : SegValue → Elements
  found_in seg = set.found_in to marked can p fit n seg

  abbrev se : Elements
  se = codes "SE" ∷ set.se_elements to marked can p fit n

  abbrev Inner : SegValue → Type 0
  Inner seg = set.Inner to marked can p fit n seg

  inner_all : All Inner inner
  inner_all = set.inner_all to marked can p fit n

  inner_kinds : list_all (λ x. may_stand_in_set (kind_by x)) (map found_in inner) ≡ true
  inner_kinds =
      let Both : SegValue → Type 0 = λ seg. Inner seg × (may_stand_in_set (kind_of seg) ≡ true) in
      let P : ℕ → Type 0 = λ b. is_ascii_alphanumeric b ≡ true in
      let iea : All P (codes "IEA") = All-from_recursion P (codes "IEA") (refl, (refl, (refl, tt))) in
      let gs : All P (codes "GS") = All-from_recursion P (codes "GS") (refl, (refl, tt)) in
      let ge : All P (codes "GE") = All-from_recursion P (codes "GE") (refl, (refl, tt)) in
      let st : All P (codes "ST") = All-from_recursion P (codes "ST") (refl, (refl, tt)) in
      let se : All P (codes "SE") = All-from_recursion P (codes "SE") (refl, (refl, tt)) in
      kinds_all inner (All-weaker Both (λ seg. may_stand_in_set (kind_by (found_in seg)) ≡ true) (λ seg is.
      let id : List ℕ = part_or_empty (found_in seg) 0 in
      let other : (word : List ℕ) → All P word → may_stand_in_set (kind_by_id word) ≡ false → has_id (found_in seg) word ≡ false =
      λ word letters control. inner_id from to marked can fit.apart seg word is.0.0 is.0.1 letters control is.1 in
      inner_kind (bytes_eq id (codes "IEA")) (bytes_eq id (codes "GS")) (bytes_eq id (codes "GE")) (bytes_eq id (codes "ST"))
      (bytes_eq id (codes "SE")) (bytes_eq id (codes "TA1")) (other (codes "IEA") iea refl) (other (codes "GS") gs refl)
      (other (codes "GE") ge refl) (other (codes "ST") st refl) (other (codes "SE") se refl)) inner
      (all_both Inner (λ seg. may_stand_in_set (kind_of seg) ≡ true) inner inner_all fit.kinds))
    where
      kinds_all : (segs : List SegValue) → All (λ seg. may_stand_in_set (kind_by (found_in seg)) ≡ true) segs
          → list_all (λ x. may_stand_in_set (kind_by x)) (map found_in segs) ≡ true
      kinds_all [] all = refl
      kinds_all (seg ∷ segs) all =
          let K : SegValue → Type 0 = λ seg. may_stand_in_set (kind_by (found_in seg)) ≡ true in
          and_from (may_stand_in_set (kind_by (found_in seg))) (list_all (λ x. may_stand_in_set (kind_by x)) (map found_in segs))
          (All-head K seg segs all)
          (kinds_all segs (All-tail K seg segs all))

  abbrev pub delivered_set : WholeSet
  delivered_set = record { header = st; inner = map found_in inner; trailer = se }

  pub delivered_row : IsMadeOf to (set_text to p n) (set_segments delivered_set)
  delivered_row =
      let bodies : List (List ℕ) = set.inner_bodies to marked can p fit n in
      let last : List ℕ = set.se_body to marked can p fit n in
      record {
        bodies = set.set_bodies to marked can p fit n;
        is = set.text_of_set to marked can p fit n;
        all = set.set_all to marked can p fit n;
        elements = ap (λ (s : Elements). s ∷ map (parts to.element) (bodies ++ last ∷ []))
            (divided_parts to (codes "ST") (set.st_elements to marked can p fit n) (set.st_divided to marked can p fit n))
            ∙ ap (λ (more : List Elements). st ∷ more) (map-append (parts to.element) bodies (last ∷ [])
            ∙ ap (λ (segs : List Elements). segs ++ parts to.element last ∷ []) (set.inner_found to marked can p fit n)
            ∙ ap (λ (s : Elements). map found_in inner ++ s ∷ [])
            (divided_parts to (codes "SE") (set.se_elements to marked can p fit n) (set.se_divided to marked can p fit n)));
      }

  pub delivered_whole : ((x : List ℕ) → is_word 3 3 x ≡ true → mapped from to x ≡ x)
      → is_word 3 3 (part_or_empty (elements_of p.set.header) 1) ≡ true → n ≤ 999999999 → IsWholeSet delivered_set
  delivered_whole keeps first small = record {
    kind = refl;
    header = st_form (elements_of p.set.header) (mapped from to) (set_number n) keeps first (padded_word n small);
    inner = inner_kinds;
    trailer = refl;
  }
