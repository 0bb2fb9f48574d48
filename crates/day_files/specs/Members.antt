-- The files of a day (own): what was read of each, what became of it, and what of it goes into the night's input.
use Rattle.std.specs.Prelude.{◌≡◌, ◌<◌, ◌==◌, ℕ, Bool, false, List, [], Option, Some, None, is_some, length}
use Rattle.std.specs.List.{flat_map}
use Rattle.std.specs.Option.{unwrap_or}
use Rattle.hub_kinds.specs.declared.limits.TheConstants.{LONGEST_TEXT}
use Rattle.gather_command.specs.Members.{IsRead, is_cut, taken_of}
use Rattle.gather_command.specs.declared.outcome.Outcome.{Outcome}
use Rattle.gather_command.specs.declared.outcome.Outcome.TheVariants as outcome
use Rattle.gather_files.specs.declared.gather.Gathered.{Gathered}
use Rattle.gather_files.specs.declared.gather.Taken.{Taken}
use Rattle.day_files.specs.declared.file.Content.{Content}
use Rattle.day_files.specs.declared.file.Content.TheVariants as content
use Rattle.day_files.specs.declared.member.Member.{Member}
use Rattle.day_files.specs.declared.member.OldSet.{OldSet}

-- what became of a file by itself, by what was read of it: a file is gathered by its bytes; nothing goes in of one that changed while it
-- was read, or whose name isn't UTF-8
abbrev pub IsGathered : Content → Outcome → (closed : List ℕ) → Type 0
IsGathered (content.Read bytes) o closed = (g : Gathered) × (o ≡ outcome.Read g) × IsRead g bytes closed
IsGathered content.Changed o closed = (o ≡ outcome.Changed) × (closed ≡ [])
IsGathered content.NameNotUtf8 o closed = (o ≡ outcome.NameNotUtf8) × (closed ≡ [])

-- more bytes were read of it than an input has
abbrev pub IsLong : Content → Type 0
IsLong (content.Read bytes) = LONGEST_TEXT < length bytes
IsLong content.Changed = ⊥
IsLong content.NameNotUtf8 = ⊥

-- it became of a file as it is gathered
abbrev pub IsGatheredMember : Member → Type 0
IsGatheredMember m = (read : Content) × IsGathered read m.outcome m.closed

-- nothing goes in of a file with an old set
abbrev pub part_by : Option OldSet → (closed : List ℕ) → List ℕ
part_by None closed = closed
part_by (Some old) closed = []

abbrev pub part_of : Member → List ℕ
part_of m = part_by m.old m.closed

-- the night's input: one file after another
abbrev pub input_of : List Member → List ℕ
input_of members = flat_map part_of members

-- a file goes in if it is taken and has no old set
abbrev pub goes_in_by : Option OldSet → Option Taken → Bool
goes_in_by None taken = is_some taken
goes_in_by (Some old) taken = false

abbrev pub goes_in : Member → Bool
goes_in m = goes_in_by m.old (taken_of m.outcome)

-- and it is whole if it isn't cut off
abbrev pub ends_whole : Option Taken → Bool
ends_whole None = false
ends_whole (Some taken) = is_cut taken.end == 0

abbrev pub is_whole_by : Option OldSet → Option Taken → Bool
is_whole_by None taken = ends_whole taken
is_whole_by (Some old) taken = false

abbrev pub is_whole : Member → Bool
is_whole m = is_whole_by m.old (taken_of m.outcome)

-- the sets that a file delivers which is asked for again
abbrev pub asked_by : Member → List (List ℕ)
asked_by m = unwrap_or m.again []

-- the sets of all files that are asked for again
abbrev pub asked_again : List Member → List (List ℕ)
asked_again members = flat_map asked_by members
