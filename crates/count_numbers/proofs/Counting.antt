-- Of the tallies of all partners, one entry more changes that of its partner.
use Rattle.std.proofs.Common.{◌≡◌, ◌<◌, ◌+◌, ◌==◌, ℕ, zero, suc, false, List, [], ◌∷◌, ◌++◌, length, map}
use Rattle.std.proofs.Common.{refl, sym, ap, ◌∙◌, arith}
use Rattle.std.specs.Prelude.{slice_index_or, slice_set}
use Rattle.std.specs.List.{range_with_len, zip}
use Rattle.std.proofs.lemmas.List.{append-nil}
use Rattle.std.proofs.lemmas.List.FromFn.{get_or-map-range_with_len, length-map-range_with_len}
use Rattle.count_numbers.specs.declared.entry.PartnerEntry.{PartnerEntry}
use Rattle.count_numbers.specs.Tally.{Entry, PartnerTally, tally_of, joined}
use Rattle.count_numbers.specs.Tallies.{entries_for, tallies_of, all_joined}
use Rattle.count_numbers.specs.TalliesLaws.{entries-append}

module _ (f g : ℕ → PartnerTally) (p : ℕ) (same : (q : ℕ) → (p == q) ≡ false → f q ≡ g q) where
  others : (a n : ℕ) → p < a → map f (range_with_len a n) ≡ map g (range_with_len a n)
  others a zero h = refl
  others a (suc n) h =
      ap (λ (t : PartnerTally). t ∷ map f (range_with_len (a + 1) n)) (same a (grind arith))
      ∙ ap (λ (ts : List PartnerTally). g a ∷ ts) (others (a + 1) n (omega arith))

  set_at : (a n i : ℕ) (t : PartnerTally) → i < n → a + i ≡ p → t ≡ g p
      → slice_set (map f (range_with_len a n)) i t ≡ map g (range_with_len a n)
  set_at a zero i t h e is = absurd (omega arith)
  set_at a (suc n) zero t h e is =
      let here : p ≡ a = omega arith in
      ap (λ (x : PartnerTally). x ∷ map f (range_with_len (a + 1) n)) (is ∙ ap g here)
      ∙ ap (λ (ts : List PartnerTally). g a ∷ ts) (others (a + 1) n (omega arith))
  set_at a (suc n) (suc i) t h e is =
      ap (λ (x : PartnerTally). x ∷ slice_set (map f (range_with_len (a + 1) n)) i t) (same a (grind arith))
      ∙ ap (λ (ts : List PartnerTally). g a ∷ ts) (set_at (a + 1) n i t (omega arith) (omega arith) is)

abbrev last_for : ℕ → PartnerEntry → List Entry
last_for q e = entries_for q (e ∷ [])

for_it : (e : PartnerEntry) → last_for e.partner e ≡ e.entry ∷ []
for_it e = grind arith

for_another : (q : ℕ) (e : PartnerEntry) → (e.partner == q) ≡ false → last_for q e ≡ []
for_another q e h = grind arith

pub counted : (n : ℕ) (es : List PartnerEntry) (e : PartnerEntry) (xs : List PartnerTally) (t new : PartnerTally)
    → e.partner < length xs → xs ≡ tallies_of n es → t ≡ slice_index_or xs e.partner t
    → ((own : List Entry) → t ≡ tally_of own → new ≡ tally_of (own ++ e.entry ∷ []))
    → slice_set xs e.partner new ≡ tallies_of n (es ++ e ∷ [])
counted n es e xs t new inside was is one =
    let p = e.partner in
    let f : ℕ → PartnerTally = λ q. tally_of (entries_for q es) in
    let g : ℕ → PartnerTally = λ q. tally_of (entries_for q (es ++ e ∷ [])) in
    let few : p < n = let len = ap length was ∙ length-map-range_with_len f 0 n in omega arith in
    let read : t ≡ f p =
    is ∙ ap (λ (ts : List PartnerTally). slice_index_or ts p t) was ∙ get_or-map-range_with_len f 0 n p p t few (omega arith) in
    let more : new ≡ g p =
    one (entries_for p es) read
    ∙ ap (λ (last : List Entry). tally_of (entries_for p es ++ last)) (sym (for_it e))
    ∙ sym (ap tally_of (entries-append p es (e ∷ []))) in
    let same : (q : ℕ) → (p == q) ≡ false → f q ≡ g q =
    λ q h. sym (ap tally_of (entries-append q es (e ∷ [])
    ∙ ap (λ (last : List Entry). entries_for q es ++ last) (for_another q e h) ∙ append-nil (entries_for q es))) in
    ap (λ (ts : List PartnerTally). slice_set ts p new) was ∙ set_at f g p same 0 n p new few (omega arith) more

-- partner by partner
pub joined_pairs : (xs ys : List PartnerTally) → map (λ (p : PartnerTally × PartnerTally). joined p.0 p.1) (zip xs ys) ≡ all_joined xs ys
joined_pairs [] ys = refl
joined_pairs (x ∷ xs) [] = refl
joined_pairs (x ∷ xs) (y ∷ ys) = ap (λ (ts : List PartnerTally). joined x y ∷ ts) (joined_pairs xs ys)
