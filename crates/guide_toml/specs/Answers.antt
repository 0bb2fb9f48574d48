-- The guide file (own): how an answer of the program is to the reading of a table.
use Rattle.std.specs.Prelude.{◌≡◌, Result, Ok, Err, string_bytes}
use Rattle.guide_tree.specs.declared.rows.GuideRows.{GuideRows}
use Rattle.guide_tree.specs.Words.{GuideTree, with_slot_numbers, guide_of, IsFirstFault, IsAccepted}
use Rattle.toml_keys.specs.Refusals.{Refusal, missing, wrong_kind, unknown}
use Rattle.toml_keys.specs.Meanings.{Meaning, refuses, no_memory, other, GivesAs}
use Rattle.guide_toml.specs.Refused.{Refused}
use Rattle.guide_toml.specs.declared.fault.GuideFileFault.{GuideFileFault}
use Rattle.guide_toml.specs.declared.fault.GuideFileFault.TheVariants as fault

-- what a refusal of a guide file says of the table of a node, or of another one
abbrev pub meaning_of : GuideFileFault → Meaning
meaning_of fault.NotToml = other
meaning_of (fault.Missing k slot) = refuses (missing k.now)
meaning_of (fault.WrongKind k slot) = refuses (wrong_kind k.now)
meaning_of (fault.Unknown k slot) = refuses (unknown (string_bytes k))
meaning_of (fault.Guide f) = other
meaning_of fault.NoMemory = no_memory

-- what was returned, seen by view, is what reading gives, unless memory ran out
abbrev pub Gives : {X Y : Type 0} → (X → Y) → Result X GuideFileFault → Result Y Refusal → Type 0
Gives view result read = GivesAs meaning_of view result read

-- the same with the number of the node
abbrev pub FailsAt : {Y : Type 0} → GuideFileFault → Result Y Refused → Type 0
FailsAt fault.NotToml read = ⊥
FailsAt (fault.Missing k slot) read = read ≡ Err (slot, missing k.now)
FailsAt (fault.WrongKind k slot) read = read ≡ Err (slot, wrong_kind k.now)
FailsAt (fault.Unknown k slot) read = read ≡ Err (slot, unknown (string_bytes k))
FailsAt (fault.Guide f) read = ⊥
FailsAt fault.NoMemory read = Unit {0}

abbrev pub GivesAt : {X Y : Type 0} → (X → Y) → Result X GuideFileFault → Result Y Refused → Type 0
GivesAt view (Ok x) read = read ≡ Ok (view x)
GivesAt view (Err e) read = FailsAt e read

-- What was returned is the guide that the table writes, if there is one and it has no fault; or the first fault.
abbrev pub Refuses : GuideFileFault → Result GuideTree Refused → Type 0
Refuses (fault.Guide f) (Ok g) = IsFirstFault (with_slot_numbers g) f
Refuses (fault.Guide f) (Err r) = ⊥
Refuses fault.NotToml read = ⊥
Refuses (fault.Missing k slot) read = read ≡ Err (slot, missing k.now)
Refuses (fault.WrongKind k slot) read = read ≡ Err (slot, wrong_kind k.now)
Refuses (fault.Unknown k slot) read = read ≡ Err (slot, unknown (string_bytes k))
Refuses fault.NoMemory read = Unit {0}

abbrev pub Answers : Result GuideRows GuideFileFault → Result GuideTree Refused → Type 0
Answers (Ok rows) (Ok g) = (guide_of rows ≡ with_slot_numbers g) × IsAccepted rows
Answers (Ok rows) (Err r) = ⊥
Answers (Err e) read = Refuses e read
