-- What a stretch of a night leaves to be numbered for each partner, in their order (own).
use Rattle.std.specs.Prelude.{ℕ, ◌==◌, Bool, List, [], ◌∷◌, map, slice_range}
use Rattle.std.specs.List.{filter, range_with_len}
use Rattle.count_numbers.specs.declared.entry.Entry.{Entry}
use Rattle.count_numbers.specs.declared.entry.PartnerEntry.{PartnerEntry}
use Rattle.count_numbers.specs.Tally.{PartnerTally, tally_of, joined}

-- it happens for the partner at this place
abbrev pub is_for : (place : ℕ) → PartnerEntry → Bool
is_for place e = e.partner == place

-- what happens for the partner at a place
abbrev pub entries_for : (place : ℕ) → List PartnerEntry → List Entry
entries_for place es = map (λ (e : PartnerEntry). e.entry) (filter (is_for place) es)

-- the tally of each of n partners
abbrev pub tallies_of : (n : ℕ) → List PartnerEntry → List PartnerTally
tallies_of n es = map (λ (place : ℕ). tally_of (entries_for place es)) (range_with_len 0 n)

-- those of two stretches that follow each other, partner by partner
abbrev pub all_joined : List PartnerTally → List PartnerTally → List PartnerTally
all_joined [] ys = []
all_joined (x ∷ xs) [] = []
all_joined (x ∷ xs) (y ∷ ys) = joined x y ∷ all_joined xs ys

-- those of a stretch of what happens for n partners
abbrev pub tallies_between : (n : ℕ) → List PartnerEntry → ℕ → ℕ → List PartnerTally
tallies_between n es a b = tallies_of n (slice_range es a b)
