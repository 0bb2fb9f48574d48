-- The nights of a hub before a run (own): the night that was the last when a run ended is still there, and their records go on.
use Rattle.std.specs.Prelude.{◌≡◌, ◌≢◌, ⊤, ℕ, Bool, true, false, List, [], MatchOption, Some, None, codes, length}
use Rattle.std.specs.List.{list_any}
use Rattle.std.specs.Str.{bytes_eq}
use Rattle.system_io.specs.Outbox.{path_in}
use Rattle.night_folder.specs.Files.{FileValue, first_line}
use Rattle.night_folder.specs.Marks.{IsAbsent}
use Rattle.night_marks.specs.Order.{in_order}
use Rattle.night_marks.specs.declared.mark.NightMark.{NightMark}
use Rattle.nights_intact.specs.declared.fault.IntactFault.{IntactFault}
use Rattle.nights_intact.specs.declared.fault.IntactFault.TheVariants as fault
use Rattle.record_review.specs.Reviewed.{AreReviewed}

abbrev pub nights_in : (hub : List ℕ) → List ℕ
nights_in hub = path_in hub (codes "nights")

-- whether a night of this name is among nights
abbrev pub has_night : (name : List ℕ) → List NightMark → Bool
has_night name marks = list_any (λ (mark : NightMark). bytes_eq mark.name name) marks

-- the file that names the last night, as it was read
abbrev pub IsLastFile : (hub : List ℕ) → FileValue → Type 0
IsLastFile hub file = file.path ≡ path_in hub (codes "last")

-- a file that was read, or the system said that nothing is there
abbrev pub IsReadOrAbsent : FileValue → Type 0
IsReadOrAbsent file = MatchOption file.bytes (IsAbsent file.path) (λ bytes. ⊤)

-- the night that the file's first line names is among the nights; a file that isn't there names none
abbrev pub IsNamedThere : List NightMark → FileValue → Type 0
IsNamedThere marks file = MatchOption file.bytes (IsAbsent file.path) (λ bytes. has_night (first_line bytes) marks ≡ true)

-- the night that was the last is among the nights
pub record IsLastThere (hub : List ℕ) (marks : List NightMark) : Type 0 where
  pub file : FileValue
  pub file_is : IsLastFile hub file
  pub there : IsNamedThere marks file

-- the records of the nights were read, and this is what is said of them
abbrev pub AreRecordsSaid : (hub : List ℕ) → List NightMark → (text : List ℕ) → (status : ℕ) → Type 0
AreRecordsSaid hub marks text status = AreReviewed (nights_in hub) (in_order (length marks) [] marks) text status

-- their records go on
pub record AreRecordsSound (hub : List ℕ) (marks : List NightMark) : Type 0 where
  pub text : List ℕ
  pub said : AreRecordsSaid hub marks text 0

-- nights to which one may be added
pub record AreIntact (hub : List ℕ) (marks : List NightMark) : Type 0 where
  pub last : IsLastThere hub marks
  pub records : AreRecordsSound hub marks

-- the night of this path was the last, and isn't among the nights
pub record IsGone (hub : List ℕ) (marks : List NightMark) (path : List ℕ) : Type 0 where
  pub file : FileValue
  pub file_is : IsLastFile hub file
  pub bytes : List ℕ
  pub read : file.bytes ≡ Some bytes
  pub gone : has_night (first_line bytes) marks ≡ false
  pub path_is : path ≡ path_in (nights_in hub) (first_line bytes)

-- the file that names the last night has no bytes that could be read
pub record IsUnread (hub : List ℕ) (path : List ℕ) : Type 0 where
  pub file : FileValue
  pub file_is : IsLastFile hub file
  pub unread : file.bytes ≡ None
  pub path_is : path ≡ file.path

-- their records don't go on, and these lines say why
pub record AreRecordsBroken (hub : List ℕ) (marks : List NightMark) (text : List ℕ) : Type 0 where
  pub status : ℕ
  pub said : AreRecordsSaid hub marks text status
  pub broken : status ≢ 0

-- why the records aren't sound; memory says nothing of them
abbrev pub IsRecordsFault : (hub : List ℕ) → List NightMark → IntactFault → Type 0
IsRecordsFault hub marks (fault.Records text) = AreRecordsBroken hub marks text
IsRecordsFault hub marks fault.Memory = ⊤
IsRecordsFault hub marks _ = ⊥

-- why no night may be added, the file that names the last night first; memory says nothing of the nights
abbrev pub IsFaultOf : (hub : List ℕ) → List NightMark → IntactFault → Type 0
IsFaultOf hub marks (fault.Unread path) = IsUnread hub path
IsFaultOf hub marks (fault.Gone path) = IsGone hub marks path
IsFaultOf hub marks (fault.Records text) = IsLastThere hub marks × AreRecordsBroken hub marks text
IsFaultOf hub marks fault.Memory = ⊤
