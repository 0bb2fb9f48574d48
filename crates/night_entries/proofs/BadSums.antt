-- A line that isn't a sum.
use Rattle.std.proofs.Common.{◌≡◌, ℕ, ◌<◌, ◌==◌, false, List, [], ◌∷◌, ◌++◌, None, Some, zero, suc, length, take, drop, sym, ap, refl, ◌∙◌}
use Rattle.std.proofs.Common.{append-nil, arith, inl, inr}
use Rattle.std.specs.Prelude.{slice_index}
use Rattle.std.specs.List.{flat_map, position}
use Rattle.std.proofs.lemmas.List.{take-append-drop}
use Rattle.night_entries.specs.Files.{sum_line}
use Rattle.night_entries.specs.ReadFault.{IsSumFault}
use Rattle.night_entries.specs.Good.{is_sum_line}
use Rattle.night_entries.specs.Refused.{HasBadSum}
use Rattle.night_entries.specs.declared.fault.EntryFault.{EntryFault}
use Rattle.night_entries.specs.declared.fault.EntryFault.TheVariants as fault
use Rattle.night_entries.specs.declared.files.NamedSum.{NamedSum}
use Rattle.night_entries.proofs.Summing.{line_found, line_open}

divided : (text : List ℕ) (at : ℕ) (sums : List NamedSum) (left : List ℕ) → flat_map sum_line sums ≡ take at text → drop at text ≡ left
    → text ≡ flat_map sum_line sums ++ left
divided text at sums left so_far is =
    sym (take-append-drop at text) ∙ ap (λ (l : List ℕ). l ++ drop at text) (sym so_far)
    ∙ ap (λ (l : List ℕ). flat_map sum_line sums ++ l) is

-- what is left has no line feed
pub open_sum : (text : List ℕ) (at : ℕ) (sums : List NamedSum) → flat_map sum_line sums ≡ take at text → 0 < length (drop at text)
    → position (λ byte. byte == 10) (drop at text) ≡ None → HasBadSum text
open_sum text at sums so_far more none = record {
  sums = sums;
  line = drop at text;
  left = [];
  text_is = divided text at sums (drop at text ++ []) so_far (sym (append-nil (drop at text)));
  one_line = line_open (drop at text) none;
  bad = inl (refl, λ e. let size = ap (λ (l : List ℕ). length l) e in omega (arith, more, size));
}

-- its first line isn't a sum
bad_line : (text : List ℕ) (at end : ℕ) (sums : List NamedSum) → flat_map sum_line sums ≡ take at text
    → position (λ byte. byte == 10) (drop at text) ≡ Some end → is_sum_line (take end (drop at text)) ≡ false → HasBadSum text
bad_line text at end sums so_far found bad =
    let line = line_found (drop at text) end found in record {
      sums = sums;
      line = take end (drop at text);
      left = drop end (drop at text);
      text_is = divided text at sums (take end (drop at text) ++ drop end (drop at text)) so_far
          (sym (take-append-drop end (drop at text)));
      one_line = line.2;
      bad = inr (feed_first (drop at text) end line.0 line.1, bad);
    }
  where
    feed_first : (l : List ℕ) (n : ℕ) → n < length l → slice_index l n ≡ 10 → take 1 (drop n l) ≡ 10 ∷ []
    feed_first [] n low is = let far : n < 0 = low in absurd (omega (arith, far))
    feed_first (x ∷ xs) zero low is = ap (λ (b : ℕ). b ∷ []) is
    feed_first (x ∷ xs) (suc n) low is = feed_first xs n (omega (arith, low)) is

pub sum_fails : (text : List ℕ) (at end : ℕ) (sums : List NamedSum) → flat_map sum_line sums ≡ take at text
    → position (λ byte. byte == 10) (drop at text) ≡ Some end → (e : EntryFault)
    → IsSumFault (is_sum_line (take end (drop at text)) ≡ false) e → IsSumFault (HasBadSum text) e
sum_fails text at end sums so_far found fault.Memory is = tt
sum_fails text at end sums so_far found (fault.Unreadable other) is = (is.0, bad_line text at end sums so_far found is.1)
