-- What the interchanges of delivered sets have (own): a night that looks for an older set needs only look where its interchange is.
use Rattle.std.specs.Prelude.{◌≡◌, ◌≤◌, ℕ, Contains, List, Option, length}
use Rattle.hub_ledger.specs.declared.entry.AddressNumbers.{AddressNumbers}
use Rattle.night_definition.specs.Header.{field}
use Rattle.night_entries.specs.Keys.{set_key}
use Rattle.night_record.specs.declared.taken.TakenInterchange.{TakenInterchange}
use Rattle.kept_files.specs.Taken.{interchange_in, taken_of}

-- each key that was delivered has its interchange among those that were taken
abbrev pub TakenHasEach : Type 0
TakenHasEach = (delivered : List (List ℕ)) (key : List ℕ) → Contains delivered key → Contains (taken_of delivered) (interchange_in key)

abbrev pub taken_by : (header : List ℕ) → TakenInterchange
taken_by header = record {
  isa05 = field 5 header;
  isa06 = field 6 header;
  isa07 = field 7 header;
  isa08 = field 8 header;
  isa13 = field 13 header;
}

-- a set's key has the elements of its interchange's header
abbrev pub TakenHasHeader : Type 0
TakenHasHeader = (header group set : List ℕ) (receiver : Option AddressNumbers) → 106 ≤ length header
    → interchange_in (set_key header group set receiver) ≡ taken_by header
