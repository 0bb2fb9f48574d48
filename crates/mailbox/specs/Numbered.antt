-- X12.5, interchange, and X12.6, functional group: the sets that are delivered to a partner, as they are numbered and go into
-- interchanges and groups (own).
use Rattle.std.specs.Prelude.{ℕ, ◌+◌, Bool, false, List, [], ◌∷◌, unwrap_or, if◌then◌else◌}
use Rattle.x12_segs.specs.Words.{element_of}
use Rattle.count_numbers.specs.Runs.{same_key}
use Rattle.count_numbers.specs.declared.run.RunKey.{RunKey}
use Rattle.answered_sets.specs.Judged.{PlacedValue}

-- a delivered set and how many sets were delivered to the partner before it
pub record NumberedValue : Type 0 where
  pub place : ℕ
  pub set : PlacedValue

abbrev pub numbered_from : ℕ → List PlacedValue → List NumberedValue
numbered_from k [] = []
numbered_from k (p ∷ ps) = record { place = k; set = p } ∷ numbered_from (k + 1) ps

-- the sender's place in the setup
abbrev pub sender_in : PlacedValue → ℕ
sender_in p = unwrap_or p.interchange.sender 0

-- what the sets of one group have in common: the sender, GS01 and GS08
abbrev pub group_key_of : PlacedValue → RunKey
group_key_of p = record {
  sender = sender_in p;
  functional_id = element_of p.group.header 1;
  version = element_of p.group.header 8;
}

-- whether a set goes into the group of the sets after it
abbrev pub goes_with : NumberedValue → List NumberedValue → Bool
goes_with x [] = false
goes_with x (y ∷ ys) = same_key (group_key_of x.set) (group_key_of y.set)

abbrev pub onto_groups : NumberedValue → List (List NumberedValue) → List (List NumberedValue)
onto_groups x [] = (x ∷ []) ∷ []
onto_groups x (group ∷ groups) = if goes_with x group then (x ∷ group) ∷ groups else (x ∷ []) ∷ group ∷ groups

-- the groups of a delivered interchange: its maximal runs of sets with one key
abbrev pub groups_of : List NumberedValue → List (List NumberedValue)
groups_of [] = []
groups_of (x ∷ xs) = onto_groups x (groups_of xs)
