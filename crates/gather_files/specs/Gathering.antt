-- X12.5, interchange: a file that is put after what was gathered so far (own).
use Rattle.std.specs.Prelude.{◌≡◌, ℕ, ◌≤◌, ◌⊎◌, ◌||◌, Bool, true, false, List, ◌++◌, ◌-◌, length, take, Option, IfSome}
use Rattle.std.specs.List.{All, suffix_len}
use Rattle.std.specs.Io.KnownBytes.{Appends, Consumes, IsAtEnd}
use Rattle.x12_bytes.specs.Bytes.{is_line_end}
use Rattle.x12_bytes.specs.Header.{header_at, terminator_of}
use Rattle.x12_bytes.specs.HeaderTest as then_test
use Rattle.x12_bytes.specs.declared.layout.TheConstants.{HEADER_LEN}
use Rattle.stream_read.specs.Held.{HeldValue}
use Rattle.stream_read.specs.declared.held.StreamFault.{StreamFault}
use Rattle.stream_read.specs.declared.held.StreamFault.TheVariants as stream
use Rattle.whole_interchanges.specs.Scouting.{Stands}
use Rattle.gather_files.specs.Gathered.{HoldsInterchanges, IsWholeBefore, KeepsToItself, StandsApart}
use Rattle.night_definition.specs.Header.{is_head}
use Rattle.night_definition.specs.Interchanges.{text_of}
use Rattle.gather_files.specs.Apart.{StandsAlone}
use Rattle.gather_files.specs.Unfinished.{LacksNothing}
use Rattle.gather_files.specs.Causes.{cause_of}
use Rattle.gather_files.specs.Closing.{Closes, IsUntouched}
use Rattle.gather_files.specs.Ends.{EndsSo}
use Rattle.gather_files.specs.EndsByLayers.{EndsByLayers}
use Rattle.gather_files.specs.Lead.{body_of, is_padding, led}
use Rattle.gather_files.specs.declared.cause.Cause.{Cause}
use Rattle.gather_files.specs.declared.fault.GatherFault.{GatherFault}
use Rattle.gather_files.specs.declared.fault.GatherFault.TheVariants as fault
use Rattle.gather_files.specs.declared.gather.End.TheVariants as end
use Rattle.gather_files.specs.declared.gather.Passing.{Passing}
use Rattle.gather_files.specs.declared.gather.Taken.{Taken}
use Rattle.gather_files.specs.declared.gather.Gathered.{Gathered}
use Rattle.gather_files.specs.declared.gather.Gathered.TheVariants as gathered

-- a file that was read to its end goes in without the blanks at its front and the padding at its end, as `closed`: it begins with a
-- header, and stands alone, whichever files come after it
pub record GoesIn (told : Option (List ℕ)) (closed : List ℕ) (taken : Taken) : Type 0 where
  pub file : List ℕ
  pub told_all : IfSome told (λ xs. xs ≡ file)
  pub count : ℕ
  pub few : count ≤ 17
  pub closes : Closes (body_of file) closed count
  pub len : taken.len ≡ length closed
  pub begins : is_head closed 0 ≡ true
  pub alone : StandsAlone closed
  pub interchanges : taken.interchanges ≡ length (text_of closed).interchanges
  pub whole : taken.end ≡ end.Whole → closed ≡ body_of file
  pub ends : EndsSo (body_of file) closed count taken.end
  pub lacks_nothing : LacksNothing (body_of file) → (closed ≡ body_of file) × IsUntouched taken.end

-- what is written then
pub record IsTaken (told was is : Option (List ℕ)) (taken : Taken) : Type 0 where
  pub closed : List ℕ
  pub goes_in : GoesIn told closed taken
  pub written : Appends was is closed

-- a file isn't taken where no header begins after the blanks at its front, for the cause that its first bytes name
pub record IsSetAside (told was is : Option (List ℕ)) (cause : Cause) : Type 0 where
  pub file : List ℕ
  pub told_all : IfSome told (λ xs. xs ≡ file)
  pub no_header : is_head (led file) 0 ≡ false
  pub named : cause ≡ cause_of (led file)
  pub nothing : is ≡ was

abbrev pub IsGathered : (told was is : Option (List ℕ)) → Gathered → Type 0
IsGathered told was is (gathered.Taken taken) = IsTaken told was is taken
IsGathered told was is (gathered.SetAside cause) = IsSetAside told was is cause

-- Private from here on: how a file goes in by the words of the layers, and how far it is read.

pub record GoesInByLayers (told : Option (List ℕ)) (closed : List ℕ) (taken : Taken) : Type 0 where
  pub file : List ℕ
  pub told_all : IfSome told (λ xs. xs ≡ file)
  pub count : ℕ
  pub few : count ≤ 17
  pub closes : Closes (body_of file) closed count
  pub len : taken.len ≡ length closed
  pub begins : then_test.is_head closed 0 ≡ true
  pub keeps : KeepsToItself closed
  pub holds : HoldsInterchanges closed taken.interchanges
  pub whole : taken.end ≡ end.Whole → closed ≡ body_of file
  pub ends : EndsByLayers (body_of file) closed count taken.end
  pub apart : StandsApart (body_of file) → (closed ≡ body_of file) × IsUntouched taken.end

pub record IsTakenByLayers (told was is : Option (List ℕ)) (taken : Taken) : Type 0 where
  pub closed : List ℕ
  pub goes_in : GoesInByLayers told closed taken
  pub written : Appends was is closed

-- what is read of a file, of which no blank before its first header is held
pub record IsLed (first now : Option (List ℕ)) (held : HeldValue) : Type 0 where
  pub file : List ℕ
  pub consumed : Consumes first now file
  pub led_is : held.bytes ≡ led file
  pub total : held.total ≡ length file

-- as many bytes as a header has, or all
pub record IsBegun (first now : Option (List ℕ)) (held : HeldValue) : Type 0 where
  pub is_led : IsLed first now held
  pub enough : (HEADER_LEN ≤ length held.bytes) ⊎ IsAtEnd now

-- CR and LF alone
abbrev pub AreEnds : List ℕ → Type 0
AreEnds bytes = All (λ b. is_line_end b ≡ true) bytes

-- what isn't looked at at the end of what is held: CR and LF, whose place a terminator may take, and padding
abbrev pub is_end : ℕ → Bool
is_end b = is_line_end b || is_padding b

-- what of the bytes held was looked at, but for these
abbrev pub kept_of : List ℕ → Passing → List ℕ
kept_of held passing = take (passing.seen - passing.ends) held

-- what is read of a file: its front is written, the rest is held, and no interchange is open between the two, whatever follows what was
-- looked at
pub record IsPassed (first now was is : Option (List ℕ)) (held : HeldValue) (passing : Passing) : Type 0 where
  pub file : List ℕ
  pub consumed : Consumes first now file
  pub total : held.total ≡ length file
  pub front : List ℕ
  pub led_is : led file ≡ front ++ held.bytes
  pub begins : then_test.is_head (led file) 0 ≡ true
  pub written : Appends was is front
  pub size : passing.written ≡ length front
  pub few_written : passing.interchanges ≤ passing.written
  pub seen : passing.seen ≤ length held.bytes
  pub few : passing.ends ≤ passing.seen
  pub ends : suffix_len is_end (front ++ take passing.seen held.bytes) ≡ passing.ends
  pub terminator : passing.terminator ≡ terminator_of (header_at (led file) 0)
  pub whole : IsWholeBefore front (kept_of held.bytes passing) passing.interchanges
  pub start : passing.scout.at ≡ 0
  pub stands : Stands (kept_of held.bytes passing) 0 passing.scout.inside

-- writing fails as the output, and closing if memory is refused
abbrev pub IsOfWriting : GatherFault → Type 0
IsOfWriting fault.Read = ⊥
IsOfWriting fault.TooLong = ⊥
IsOfWriting _ = Unit {0}

abbrev pub stream_fault : StreamFault → GatherFault
stream_fault stream.InputTooLong = fault.TooLong
stream_fault stream.NoMemory = fault.NoMemory
stream_fault stream.Read = fault.Read
