-- An id of four bytes or more is no control segment's.
use Rattle.std.proofs.Common.{ℕ, ◌≡◌, ◌≤◌, ◌<◌, Bool, true, false, ◌&&◌, cond, List, [], ◌∷◌, Option, Some, None, length}
use Rattle.std.proofs.Common.{take, refl, nat_eq, ap, sym, ◌∙◌, arith, inl, inr}
use Rattle.std.proofs.lemmas.Bool.{cases_lt}
use Rattle.std.proofs.lemmas.List.{length-take-le, take_all}
use Rattle.memchr.specs.Find.{IsFirstByte, Nowhere, Passes, is_byte}
use Rattle.x12_segs.specs.Kinds.{kind_by_id}
use Rattle.x12_segs.specs.Parts.{parts}
use Rattle.x12_segs.specs.View.{part_or_empty}
use Rattle.x12_segs.specs.declared.kind.Kind.TheVariants.{InterchangeTrailer, GroupHeader, GroupTrailer, SetHeader, SetTrailer, Ta1}
use Rattle.x12_segs.specs.declared.kind.Kind.TheVariants.{Other}
use Rattle.x12_segs.proofs.PartLemmas.{parts-found, parts-none}
use Rattle.x12_segs.proofs.FirstLemmas.{first_byte}

none_of : (a b c d e f : Bool) → a ≡ false → b ≡ false → c ≡ false → d ≡ false → e ≡ false → f ≡ false
    → cond a InterchangeTrailer (cond b GroupHeader (cond c GroupTrailer (cond d SetHeader (cond e SetTrailer (cond f Ta1 Other)))))
    ≡ Other
none_of a b c d e f p q r s t u = rw (p, q, r, s, t, u) refl

two : (a b : Bool) → (a && (b && false)) ≡ false
two true true = refl
two true false = refl
two false b = refl

three : (a b c : Bool) → (a && (b && (c && false))) ≡ false
three true b c = two b c
three false b c = refl

pub long_id : (id : List ℕ) → 4 ≤ length id → kind_by_id id ≡ Other
long_id [] h = absurd (omega (arith, h))
long_id (w ∷ []) h = absurd (omega (arith, h))
long_id (w ∷ x ∷ []) h = absurd (omega (arith, h))
long_id (w ∷ x ∷ y ∷ []) h = absurd (omega (arith, h))
long_id (w ∷ x ∷ y ∷ z ∷ rest) h =
    none_of _ _ _ _ _ _ (three (nat_eq w 73) (nat_eq x 69) (nat_eq y 65)) (two (nat_eq w 71) (nat_eq x 83))
    (two (nat_eq w 71) (nat_eq x 69))
    (two (nat_eq w 83) (nat_eq x 84)) (two (nat_eq w 83) (nat_eq x 69)) (three (nat_eq w 84) (nat_eq x 65) (nat_eq y 49))

-- an id that ends at a separator
pub id_found : (e : ℕ) (bytes : List ℕ) (at : ℕ) → IsFirstByte (is_byte e) bytes (Some at) → part_or_empty (parts e bytes) 0 ≡ take at bytes
id_found e bytes at found = ap (λ (ps : List (List ℕ)). part_or_empty ps 0) (parts-found e bytes at found)

long_by : (e : ℕ) (bytes : List ℕ) (r : Option ℕ) → IsFirstByte (is_byte e) bytes r → Nowhere (Passes (is_byte e) bytes) 0 4
    → 4 ≤ length bytes
    → kind_by_id (part_or_empty (parts e bytes) 0) ≡ Other
long_by e bytes None none nowhere h =
    ap (λ (ps : List (List ℕ)). kind_by_id (part_or_empty ps 0)) (parts-none e bytes none) ∙ long_id bytes h
long_by e bytes (Some k) found nowhere h = elim (cases_lt k 4) [
  | inl lt ↦ absurd (nowhere k (omega arith) lt found.1)
  | inr ge ↦ ap kind_by_id (id_found e bytes k found)
      ∙ long_id (take k bytes) (omega (arith, length-take-le k bytes (omega (arith, found.0.high)), ge))
]

pub id_not_found : (e : ℕ) (bytes : List ℕ) (most : ℕ) → Nowhere (Passes (is_byte e) bytes) 0 most → most ≤ length bytes → most ≤ 4
    → (most < 4 → most ≡ length bytes) → kind_by_id (take most bytes) ≡ kind_by_id (part_or_empty (parts e bytes) 0)
id_not_found e bytes most nowhere le four short = elim (cases_lt most 4) [
  | inl lt ↦
      let is : most ≡ length bytes = short lt in
      let none : parts e bytes ≡ bytes ∷ [] = parts-none e bytes (rw is at nowhere) in
      ap kind_by_id (take_all most bytes (omega (arith, is))) ∙ sym (ap (λ (ps : List (List ℕ)). kind_by_id (part_or_empty ps 0)) none)
  | inr ge ↦
      let is : most ≡ 4 = omega (arith, four, ge) in
      let under = first_byte e bytes in
      long_id (take most bytes) (omega (arith, length-take-le most bytes le, ge))
      ∙ sym (long_by e bytes under.0 under.1 (rw is at nowhere) (omega (arith, le, is)))
]
