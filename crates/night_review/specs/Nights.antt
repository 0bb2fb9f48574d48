-- The nights of a folder (own): which nights it has, and which of them are archived.
use Rattle.std.specs.Prelude.{◌≡◌, ◌⊎◌, ℕ, Bool, true, List, [], ◌∷◌, ◌-◌, Option, None, Some, filter, length, slice_get}
use Rattle.std.specs.Cmp.Lexicographic.{slice_cmp}
use Rattle.std.specs.List.{AllZip, filter_map}
use Rattle.std.specs.Ordering.{is_lt, nat_cmp}
use Rattle.night_folder.specs.Files.{FolderValue}
use Rattle.night_folder.specs.Home.{archive_of}
use Rattle.night_folder.specs.Marks.{IsAbsent, IsFound}
use Rattle.night_marks.specs.declared.mark.NightMark.{NightMark}

-- the nights among the names that were found
abbrev pub nights_in : List (Option NightMark) → List NightMark
nights_in found = filter_map (λ (mark : Option NightMark). mark) found

-- the folder was listed, and these are its nights
pub record AreListed (nights : List ℕ) (marks : List NightMark) : Type 0 where
  pub folder : FolderValue
  pub folder_at : folder.path ≡ nights
  pub names : List (List ℕ)
  pub listed : folder.names ≡ Some names
  pub found : List (Option NightMark)
  pub found_by : AllZip (IsFound nights) names found
  pub nights_are : marks ≡ nights_in found

-- the system said that nothing is at a path, or the folder there was listed, and these are its nights
abbrev pub AreListedIfThere : (path : List ℕ) → List NightMark → Type 0
AreListedIfThere path marks = (IsAbsent path × (marks ≡ [])) ⊎ AreListed path marks

-- the nights that are archived
abbrev pub AreArchived : (nights : List ℕ) → List NightMark → Type 0
AreArchived nights archived = AreListedIfThere (archive_of nights) archived

-- a night whose name comes after another, in the order of their bytes
abbrev pub is_after : (name : List ℕ) → NightMark → Bool
is_after name mark = is_lt (slice_cmp nat_cmp name mark.name)

-- a night, marked as the one that represents archived ones
abbrev pub as_archived : NightMark → NightMark
as_archived mark = record mark { is_archived = true }

-- a night that represents archived ones, and those after it
abbrev pub after_archive : NightMark → (listed : List NightMark) → List NightMark
after_archive first listed = as_archived first ∷ filter (is_after first.name) listed

abbrev pub after_last : Option NightMark → (listed : List NightMark) → List NightMark
after_last None listed = listed
after_last (Some last) listed = after_archive last listed

abbrev pub last_of : List NightMark → Option NightMark
last_of marks = slice_get marks (length marks - 1)

-- the last of the archived nights counts, and the nights up to it are passed over
abbrev pub with_archive : (archived listed : List NightMark) → List NightMark
with_archive archived listed = after_last (last_of archived) listed

-- the nights of a folder; without archived nights they are those that were listed
pub record AreNights (nights : List ℕ) (marks : List NightMark) : Type 0 where
  pub listed : List NightMark
  pub listed_are : AreListed nights listed
  pub archived : List NightMark
  pub archived_are : AreArchived nights archived
  pub marks_are : marks ≡ with_archive archived listed
