-- What a stretch of a night leaves to be numbered for one partner (own): its acknowledgments, their groups and its delivered sets.
use Rattle.std.specs.Prelude.{◌≡◌, ℕ, ◌≤◌, ◌-◌, ◌^◌, Bool, true, false, List, [], ◌∷◌, ◌++◌}
use Rattle.count_numbers.specs.declared.run.RunKey.{RunKey}
pub use Rattle.count_numbers.specs.declared.entry.Entry.{Entry}
pub use Rattle.count_numbers.specs.declared.entry.Entry.TheVariants.{Acknowledged, Delivered}
use Rattle.count_numbers.specs.declared.run.Run.{Run}
use Rattle.count_numbers.specs.Runs.{together, runs_of, join_runs}

-- how many acknowledgments, how many of them have a group, and the maximal runs of delivered sets that go into one group
pub record PartnerTally : Type 0 where
  pub acknowledgments : ℕ
  pub groups : ℕ
  pub runs : List Run

abbrev pub acknowledgment_count : List Entry → ℕ
acknowledgment_count [] = 0
acknowledgment_count (Acknowledged has_group ∷ es) = together 1 (acknowledgment_count es)
acknowledgment_count (Delivered key ∷ es) = acknowledgment_count es

-- how many groups an acknowledgment has: one that holds its 999s (X12.6, functional group), or none
abbrev pub groups_in_one : (has_group : Bool) → ℕ
groups_in_one true = 1
groups_in_one false = 0

abbrev pub acknowledged_groups : List Entry → ℕ
acknowledged_groups [] = 0
acknowledged_groups (Acknowledged has_group ∷ es) = together (groups_in_one has_group) (acknowledged_groups es)
acknowledged_groups (Delivered key ∷ es) = acknowledged_groups es

abbrev pub keys_of : List Entry → List RunKey
keys_of [] = []
keys_of (Acknowledged has_group ∷ es) = keys_of es
keys_of (Delivered key ∷ es) = key ∷ keys_of es

abbrev pub tally_of : List Entry → PartnerTally
tally_of es = record {
  acknowledgments = acknowledgment_count es;
  groups = acknowledged_groups es;
  runs = runs_of (keys_of es);
}

-- the tally of nothing
abbrev pub empty_tally : PartnerTally
empty_tally = record { acknowledgments = 0; groups = 0; runs = [] }

-- the tally of two stretches that follow each other
abbrev pub joined : PartnerTally → PartnerTally → PartnerTally
joined a b = record {
  acknowledgments = together a.acknowledgments b.acknowledgments;
  groups = together a.groups b.groups;
  runs = join_runs a.runs b.runs;
}

-- a count that a tally holds
abbrev pub IsCount : ℕ → Type 0
IsCount n = n ≤ 2 ^ 64 - 1

-- both of its counts are such
abbrev pub HasCounts : PartnerTally → Type 0
HasCounts a = IsCount a.acknowledgments × IsCount a.groups

-- the laws of what is joined piece by piece
pub record PieceLaws : Type 0 where
  pub front_unit : (a : PartnerTally) → HasCounts a → joined empty_tally a ≡ a
  pub back_unit : (a : PartnerTally) → HasCounts a → joined a empty_tally ≡ a
  pub associative : (a b c : PartnerTally) → joined (joined a b) c ≡ joined a (joined b c)
  pub halves : (xs ys : List Entry) → tally_of (xs ++ ys) ≡ joined (tally_of xs) (tally_of ys)
