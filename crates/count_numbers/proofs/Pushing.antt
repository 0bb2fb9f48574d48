-- A run after runs is one with the last of them, or stands after it.
use Rattle.std.proofs.Common.{◌≡◌, ◌<◌, ℕ, zero, suc, true, false, List, [], ◌∷◌, ◌++◌, length, refl, sym, ap, ◌∙◌, arith}
use Rattle.std.specs.Prelude.{slice_index_or, slice_set}
use Rattle.count_numbers.specs.declared.run.Run.{Run}
use Rattle.count_numbers.specs.Runs.{same_key, together, merged, join_runs}
use Rattle.count_numbers.specs.Joining.{onto_same, onto_other}

pub into_last : (xs : List Run) (n : ℕ) (last r : Run) → suc n ≡ length xs → last ≡ slice_index_or xs n last
    → same_key last.key r.key ≡ true → slice_set xs n (merged last r) ≡ join_runs xs (r ∷ [])
into_last [] n last r e is same = absurd (omega arith)
into_last (x ∷ []) zero last r e is same =
    sym (onto_same x r [] (ap (λ (l : Run). same_key l.key r.key) (sym is) ∙ same)
    ∙ ap (λ (l : Run). merged l r ∷ []) (sym is))
into_last (x ∷ []) (suc n) last r e is same = absurd (omega arith)
into_last (x ∷ y ∷ xs) zero last r e is same = absurd (omega arith)
into_last (x ∷ y ∷ xs) (suc n) last r e is same =
    ap (λ (rs : List Run). x ∷ rs) (into_last (y ∷ xs) n last r (omega arith) is same)

pub behind_last : (xs : List Run) (n : ℕ) (last r : Run) → suc n ≡ length xs → last ≡ slice_index_or xs n last
    → same_key last.key r.key ≡ false → xs ++ r ∷ [] ≡ join_runs xs (r ∷ [])
behind_last [] n last r e is other = absurd (omega arith)
behind_last (x ∷ []) zero last r e is other = sym (onto_other x r [] (ap (λ (l : Run). same_key l.key r.key) (sym is) ∙ other))
behind_last (x ∷ []) (suc n) last r e is other = absurd (omega arith)
behind_last (x ∷ y ∷ xs) zero last r e is other = absurd (omega arith)
behind_last (x ∷ y ∷ xs) (suc n) last r e is other =
    ap (λ (rs : List Run). x ∷ rs) (behind_last (y ∷ xs) n last r (omega arith) is other)

pub behind_none : (xs : List Run) (r : Run) → length xs ≡ 0 → xs ++ r ∷ [] ≡ join_runs xs (r ∷ [])
behind_none [] r e = refl
behind_none (x ∷ xs) r e = absurd (omega arith)

-- what is read at one place is the same
pub read_twice : (xs : List Run) (n : ℕ) (a b : Run) → n < length xs → a ≡ slice_index_or xs n a → b ≡ slice_index_or xs n b → a ≡ b
read_twice [] n a b h e f = absurd (omega arith)
read_twice (x ∷ xs) zero a b h e f = e ∙ sym f
read_twice (x ∷ xs) (suc n) a b h e f = read_twice xs n a b (omega arith) e f

pub same_run : (a b : Run) (s : ℕ) (r : Run) → a ≡ b → s ≡ together b.sets r.sets → record { key = a.key; sets = s } ≡ merged b r
same_run a b s r e is =
    ap (λ (x : Run). record { key = x.key; sets = s }) e ∙ ap (λ (n : ℕ). record { key = b.key; sets = n }) is
