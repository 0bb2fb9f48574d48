-- How far it is to the first byte of a value.
use Rattle.std.proofs.Common.{◌≡◌, ℕ, ◌≤◌, ◌<◌, List, length, Option, Some, None, Bool, true, false, not, nat_eq, get_or, refl, sym, arith}
use Rattle.std.proofs.Common.{inl, inr, ap, ◌∙◌}
use Rattle.std.specs.Prelude.{unwrap_or}
use Rattle.std.specs.List.{prefix_len}
use Rattle.std.proofs.lemmas.Bool.{cases_lt, false≢true}
use Rattle.std.proofs.lemmas.List.Sums.{prefix_len-le-length, prefix_len_passes, prefix_len_stops}
use Rattle.memchr.specs.Find.{IsFirstByte, is_byte}
use Rattle.env_marks.specs.Frags.{is_other_than}

not_false : (b : Bool) → not b ≡ false → b ≡ true
not_false true h = refl
not_false false h = sym h

pub id_len_of : (e : ℕ) (xs : List ℕ) (r : Option ℕ) → IsFirstByte (is_byte e) xs r
    → unwrap_or r (length xs) ≡ prefix_len (is_other_than e) xs
id_len_of e xs None nowhere =
    let n : ℕ = prefix_len (is_other_than e) xs in
    let most : n ≤ length xs = prefix_len-le-length (is_other_than e) xs in
    elim (cases_lt n (length xs)) [
      | inl lt ↦ absurd (nowhere n (omega arith) lt (not_false (nat_eq (get_or xs n 0) e) (prefix_len_stops (is_other_than e) xs 0 lt)))
      | inr ge ↦ omega (arith, most, ge)
    ]
id_len_of e xs (Some k) found =
    let n : ℕ = prefix_len (is_other_than e) xs in
    let below : k < length xs = found.0.high in
    elim (cases_lt n k) [
      | inl lt ↦
          let stops = not_false (nat_eq (get_or xs n 0) e) (prefix_len_stops (is_other_than e) xs 0 (omega (arith, lt, below))) in
          absurd (found.0.before n (omega arith) lt stops)
      | inr ge ↦ elim (cases_lt k n) [
        | inl lt ↦ absurd (false≢true (sym (ap not found.1) ∙ prefix_len_passes (is_other_than e) xs k 0 lt))
        | inr le ↦ omega (arith, ge, le)
      ]
    ]
