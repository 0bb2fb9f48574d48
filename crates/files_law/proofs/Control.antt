-- X12.5 and X12.6, control segments: none begins as a header.
use Rattle.std.proofs.Common.{◌≡◌, ℕ, ◌≤◌, Bool, true, false, cond, List, [], ◌∷◌, length, take, refl, sym, ap, ◌∙◌, arith}
use Rattle.std.proofs.Common.{◌⊎◌, inl, inr}
use Rattle.std.specs.Prelude.{◌==◌, codes, if◌then◌else◌}
use Rattle.std.specs.List.{slice_split}
use Rattle.std.specs.Str.{bytes_eq}
use Rattle.std.proofs.lemmas.List.{length-take, take-take}
use Rattle.std.proofs.lemmas.Slice.Eq.{bytes_eq-Decides}
use Rattle.x12_segs.specs.declared.kind.Kind.TheVariants.{GroupHeader, GroupTrailer, InterchangeTrailer, Other, SetHeader, SetTrailer, Ta1}
use Rattle.x12_segs.specs.Words.{may_stand_in_set, part_or_empty, parts}
use Rattle.files_law.specs.Whole.{kind_by}
use Rattle.files_law.specs.Written.{BeginsOtherwise}

-- a text begins with its first part
abbrev onto : ℕ → List (List ℕ) → List (List ℕ)
onto x [] = (x ∷ []) ∷ []
onto x (part ∷ parts) = (x ∷ part) ∷ parts

abbrev first_in : List (List ℕ) → List ℕ
first_in list = part_or_empty list 0

onto_first : (x : ℕ) (text : List ℕ) (list : List (List ℕ)) → take (length (first_in list)) text ≡ first_in list
    → take (length (first_in (onto x list))) (x ∷ text) ≡ first_in (onto x list)
onto_first x text [] is = refl
onto_first x text (part ∷ list) is = ap (λ (xs : List ℕ). x ∷ xs) is

begins_with_first : (test : ℕ → Bool) (text : List ℕ)
    → take (length (first_in (slice_split test text))) text ≡ first_in (slice_split test text)
begins_with_first test [] = refl
begins_with_first test (x ∷ text) = by (begins_with_first test text) (test x)
  where
    by : take (length (first_in (slice_split test text))) text ≡ first_in (slice_split test text) → (b : Bool)
        → take (length (first_in (cond b ([] ∷ slice_split test text) (onto x (slice_split test text))))) (x ∷ text)
        ≡ first_in (cond b ([] ∷ slice_split test text) (onto x (slice_split test text)))
    by rest true = refl
    by rest false = onto_first x text (slice_split test text) rest

-- one that begins with a word begins as the word does
begins_as : (e : ℕ) (bytes word : List ℕ) → bytes_eq (part_or_empty (parts e bytes) 0) word ≡ true → 2 ≤ length word
    → bytes_eq (take 2 word) (codes "IS") ≡ false → BeginsOtherwise bytes
begins_as e bytes word is long other =
    let id : List ℕ = part_or_empty (parts e bytes) 0 in
    let same : id ≡ word = (bytes_eq-Decides id word).0 is in
    let front : take (length id) bytes ≡ id = begins_with_first (λ b. b == e) bytes in
    let here : take (length word) bytes ≡ word = ap (λ (w : List ℕ). take (length w) bytes) (sym same) ∙ front ∙ same in
    let size = length-take (length word) bytes in
    let sized : length (take (length word) bytes) ≡ length word = ap length here in
    record {
      long = omega (arith, long, size, sized);
      other = ap (λ (t : List ℕ). bytes_eq t (codes "IS")) (sym (take-take 2 (length word) bytes long) ∙ ap (take 2) here) ∙ other;
    }

-- a segment that may not stand between ST and SE has one of five ids
one_of : (a b c d e f : Bool) → may_stand_in_set (if a then InterchangeTrailer else if b then GroupHeader else if c then GroupTrailer
    else if d then SetHeader else if e then SetTrailer else if f then Ta1 else Other) ≡ false
    → (a ≡ true) ⊎ ((b ≡ true) ⊎ ((c ≡ true) ⊎ ((d ≡ true) ⊎ (e ≡ true))))
one_of true b c d e f is = inl refl
one_of false true c d e f is = inr (inl refl)
one_of false false true d e f is = inr (inr (inl refl))
one_of false false false true e f is = inr (inr (inr (inl refl)))
one_of false false false false true f is = inr (inr (inr (inr refl)))
one_of false false false false false true is = cc
one_of false false false false false false is = cc

pub control_otherwise : (e : ℕ) (bytes : List ℕ) → may_stand_in_set (kind_by (parts e bytes)) ≡ false → BeginsOtherwise bytes
control_otherwise e bytes is =
    let id : List ℕ = part_or_empty (parts e bytes) 0 in
    elim (one_of (bytes_eq id (codes "IEA")) (bytes_eq id (codes "GS")) (bytes_eq id (codes "GE")) (bytes_eq id (codes "ST"))
    (bytes_eq id (codes "SE")) (bytes_eq id (codes "TA1")) is) [
      | inl iea ↦ begins_as e bytes (codes "IEA") iea (omega arith) refl
      | inr rest ↦ elim rest [
        | inl gs ↦ begins_as e bytes (codes "GS") gs (omega arith) refl
        | inr rest ↦ elim rest [
          | inl ge ↦ begins_as e bytes (codes "GE") ge (omega arith) refl
          | inr rest ↦ elim rest [
            | inl st ↦ begins_as e bytes (codes "ST") st (omega arith) refl
            | inr se ↦ begins_as e bytes (codes "SE") se (omega arith) refl
          ]
        ]
      ]
    ]
