-- The tallies of all partners join like the stretches that they are of.
use Rattle.std.specs.Prelude.{map, slice_range, ℕ, ◌≡◌, ◌≤◌, List, [], ◌∷◌, ◌++◌}
use Rattle.std.specs.List.{filter, range_with_len}
use Rattle.std.proofs.Common.{arith, ap, sym, refl, ◌∙◌}
use Rattle.std.proofs.lemmas.List.{map-append}
use Rattle.std.proofs.lemmas.List.Elements.{filter-append}
use Rattle.env_marks.specs.Laws.{PieceLaws}
use Rattle.env_marks.specs.MarkLaws.{range-split}
use Rattle.count_numbers.specs.declared.entry.Entry.{Entry}
use Rattle.count_numbers.specs.declared.entry.PartnerEntry.{PartnerEntry}
use Rattle.count_numbers.specs.Tally.{PartnerTally, tally_of, joined}
use Rattle.count_numbers.specs.Tallies.{is_for, entries_for, tallies_of, all_joined, tallies_between}
use Rattle.count_numbers.specs.Tallying.{tally_append, tallies_assoc}

abbrev entry_of : PartnerEntry → Entry
entry_of e = e.entry

pub entries-append : (place : ℕ) (xs ys : List PartnerEntry) → entries_for place (xs ++ ys) ≡ entries_for place xs ++ entries_for place ys
entries-append place xs ys =
    ap (map entry_of) (filter-append (is_for place) xs ys) ∙ map-append entry_of (filter (is_for place) xs) (filter (is_for place) ys)

abbrev tally_at : List PartnerEntry → ℕ → PartnerTally
tally_at es place = tally_of (entries_for place es)

pub tally_at-append : (place : ℕ) (xs ys : List PartnerEntry) → joined (tally_at xs place) (tally_at ys place) ≡ tally_at (xs ++ ys) place
tally_at-append place xs ys =
    sym (tally_append (entries_for place xs) (entries_for place ys)) ∙ sym (ap tally_of (entries-append place xs ys))

at_places : (xs ys : List PartnerEntry) (places : List ℕ)
    → all_joined (map (tally_at xs) places) (map (tally_at ys) places) ≡ map (tally_at (xs ++ ys)) places
at_places xs ys [] = refl
at_places xs ys (place ∷ places) =
    ap (λ (t : PartnerTally). t ∷ all_joined (map (tally_at xs) places) (map (tally_at ys) places)) (tally_at-append place xs ys)
    ∙ ap (λ (ts : List PartnerTally). tally_at (xs ++ ys) place ∷ ts) (at_places xs ys places)

pub tallies-append : (n : ℕ) (xs ys : List PartnerEntry) → all_joined (tallies_of n xs) (tallies_of n ys) ≡ tallies_of n (xs ++ ys)
tallies-append n xs ys = at_places xs ys (range_with_len 0 n)

pub all_assoc : (xs ys zs : List PartnerTally) → all_joined (all_joined xs ys) zs ≡ all_joined xs (all_joined ys zs)
all_assoc [] ys zs = refl
all_assoc (x ∷ xs) [] zs = refl
all_assoc (x ∷ xs) (y ∷ ys) [] = refl
all_assoc (x ∷ xs) (y ∷ ys) (z ∷ zs) =
    ap (λ (t : PartnerTally). t ∷ all_joined (all_joined xs ys) zs) (tallies_assoc x y z)
    ∙ ap (λ (ts : List PartnerTally). joined x (joined y z) ∷ ts) (all_assoc xs ys zs)

tallies_both : (n : ℕ) (es : List PartnerEntry) (a b c : ℕ) → a ≤ b → b ≤ c
    → all_joined (tallies_between n es a b) (tallies_between n es b c) ≡ tallies_between n es a c
tallies_both n es a b c h k =
    tallies-append n (slice_range es a b) (slice_range es b c) ∙ sym (ap (tallies_of n) (range-split es a b c h k))

pub tallies_piece_laws : PieceLaws tallies_between all_joined
tallies_piece_laws = record {
  empty_left = λ n es a b h l. tallies_both n es a a b (omega arith) h;
  empty_right = λ n es a b h l. tallies_both n es a b b h (omega arith);
  assoc = all_assoc;
  both = λ n es a b c h k l. tallies_both n es a b c h k;
}
