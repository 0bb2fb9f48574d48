-- How many nights there are with those that are archived (own). The number of a night is in the first six bytes of its name.
use Rattle.std.specs.Prelude.{ℕ, ◌+◌, not, List, [], ◌∷◌, filter, if◌then◌else◌, length, take, unwrap_or}
use Rattle.hub_kinds.specs.Numbers.{number_of}
use Rattle.night_marks.specs.declared.mark.NightMark.{NightMark}

-- the number of a night, by the name of its folder; 0 if it has none
abbrev pub number_in : (name : List ℕ) → ℕ
number_in name = unwrap_or (number_of 6 (take 6 name)) 0

-- the nights that aren't archived
abbrev pub unarchived : List NightMark → List NightMark
unarchived nights = filter (λ (night : NightMark). not night.is_archived) nights

-- the entries of archived nights
abbrev pub archived : List NightMark → List NightMark
archived nights = filter (λ (night : NightMark). night.is_archived) nights

-- how many nights are archived: the first is their entry
abbrev pub archived_count : List NightMark → ℕ
archived_count [] = 0
archived_count (night ∷ nights) = if night.is_archived then number_in night.name else 0

-- how many nights there are, archived nights included
abbrev pub night_count : List NightMark → ℕ
night_count nights = archived_count nights + length (unarchived nights)
