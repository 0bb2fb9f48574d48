-- X12.6, functional group: the groups of a mailbox are the runs that a tally counts (own).
use Rattle.std.specs.Prelude.{◌≡◌, ℕ, List, [], ◌∷◌, map, length}
use Rattle.count_numbers.specs.declared.run.Run.{Run}
use Rattle.count_numbers.specs.Layout.{delivered_groups, interchanges_of, layout_of}
use Rattle.count_numbers.specs.Runs.{runs_of, together}
use Rattle.answered_sets.specs.Judged.{PlacedValue}
use Rattle.mailbox.specs.Mailbox.{group_total}
use Rattle.mailbox.specs.Numbered.{NumberedValue, groups_of, group_key_of, numbered_from}

-- a group of these sets: what they have in common, and how many they are
abbrev pub run_of : NumberedValue → List NumberedValue → Run
run_of x xs = record { key = group_key_of x.set; sets = together 1 (length xs) }

-- groups as runs; a group has a set
abbrev pub runs_in : List (List NumberedValue) → List Run
runs_in [] = []
runs_in ([] ∷ groups) = runs_in groups
runs_in ((x ∷ xs) ∷ groups) = run_of x xs ∷ runs_in groups

-- the groups of sets are the maximal runs of their keys
abbrev pub GroupsAreRuns : Type 0
GroupsAreRuns = (sets : List NumberedValue) → runs_in (groups_of sets) ≡ runs_of (map (λ x. group_key_of x.set) sets)

-- those of each delivered interchange are as they are laid out by the keys
abbrev pub GroupsAreLaidOut : Type 0
GroupsAreLaidOut =
    (cap : ℕ) (sets : List PlacedValue)
    → map (λ some. runs_in (groups_of some)) (interchanges_of cap (numbered_from 0 sets)) ≡ layout_of cap (map group_key_of sets)

-- a mailbox has as many groups as the keys of its sets make in delivered interchanges
abbrev pub GroupsAreCounted : Type 0
GroupsAreCounted = (cap : ℕ) (sets : List PlacedValue) → group_total cap sets ≡ delivered_groups cap (map group_key_of sets)
