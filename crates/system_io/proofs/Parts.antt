-- Parts are written, one after the other, or kept to be written with those after them.
use Rattle.std.proofs.Common.{◌≡◌, ◌<◌, ◌≤◌, ℕ, ◌+◌, List, [], ◌∷◌, ◌++◌, Option, take, get_or, length, sym, ap, subst, ◌∙◌}
use Rattle.std.proofs.Common.{append_assoc}
use Rattle.std.proofs.lemmas.Grind.{flat_map-append}
use Rattle.std.proofs.lemmas.List.{append-nil, take_all, take_more}
use Rattle.std.specs.Io.KnownBytes.{Appends}
use Rattle.std.specs.List.{flat_map}
use Rattle.system_io.proofs.ForAbove.{writes_on}

abbrev same : List ℕ → List ℕ
same part = part

module _ (parts : List (List ℕ)) (i : ℕ) (part : List ℕ) (within : i < length parts) (its : part ≡ get_or parts i part)
    (a b : Option (List ℕ)) (done row : List ℕ) (before : Appends a b done)
    (so_far : done ++ row ≡ flat_map (λ (p : List ℕ). p) (take i parts)) where
  one_more : flat_map (λ (p : List ℕ). p) (take (i + 1) parts) ≡ (done ++ row) ++ part
  one_more =
      ap (flat_map same) (take_more parts i part within ∙ ap (λ (p : List ℕ). take i parts ++ p ∷ []) (sym its))
      ∙ flat_map-append same (take i parts) (part ∷ [])
      ∙ ap (λ (l : List ℕ). flat_map same (take i parts) ++ l) (append-nil part)
      ∙ ap (λ (l : List ℕ). l ++ part) (sym so_far)

  pub part_kept : (new : List ℕ) → new ≡ row ++ part
      → (x : List ℕ) × Appends a b x × (x ++ new ≡ flat_map (λ (p : List ℕ). p) (take (i + 1) parts))
  part_kept new is =
      (done, before, ap (λ (l : List ℕ). done ++ l) is ∙ sym (append_assoc done row part) ∙ sym one_more)

  pub part_written : (c d : Option (List ℕ)) (new first second : List ℕ) → first ≡ row → second ≡ part → Appends b c first
      → Appends c d second → new ≡ []
      → (x : List ℕ) × Appends a d x × (x ++ new ≡ flat_map (λ (p : List ℕ). p) (take (i + 1) parts))
  part_written c d new first second e f one two none = (
    (done ++ row) ++ part,
    writes_on a c d (done ++ row) part (writes_on a b c done row before (subst (Appends b c) e one)) (subst (Appends c d) f two),
    ap (λ (l : List ℕ). ((done ++ row) ++ part) ++ l) none ∙ append-nil ((done ++ row) ++ part) ∙ sym one_more,
  )

pub all_written : (parts : List (List ℕ)) (i : ℕ) (a b c : Option (List ℕ)) (done row last : List ℕ) → Appends a b done
    → done ++ row ≡ flat_map (λ (p : List ℕ). p) (take i parts) → length parts ≤ i → last ≡ row → Appends b c last
    → Appends a c (flat_map (λ (p : List ℕ). p) parts)
all_written parts i a b c done row last before so_far all e one =
    subst (Appends a c) (so_far ∙ ap (flat_map same) (take_all i parts all))
    (writes_on a b c done row before (subst (Appends b c) e one))
