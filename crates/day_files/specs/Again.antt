-- The sets that a night is asked for again (own), as they are written.
use Rattle.std.specs.Prelude.{◌≡◌, ◌≤◌, ℕ, false, List, Option, length}
use Rattle.breach_lines.specs.Keys.{ends_of, group_of, interchange_of, receiver_of, set_of}
use Rattle.hub_ledger.specs.declared.entry.AddressNumbers.{AddressNumbers}
use Rattle.night_entries.specs.Again.{key_of}
use Rattle.night_entries.specs.Good.{has_byte}
use Rattle.night_entries.specs.Keys.{set_key}
use Rattle.night_record.specs.declared.again.AgainSet.{AgainSet}

-- the set of a key
abbrev pub set_in : (key : List ℕ) → AgainSet
set_in key = record {
  ends = ends_of key;
  isa13 = interchange_of key;
  gs06 = group_of key;
  st02 = set_of key;
  receiver = receiver_of key;
}

-- a set's key, whose GS06 and ST02 have no byte 0, is that of the set which is written
abbrev pub AgainHasKey : Type 0
AgainHasKey = (header group set : List ℕ) (receiver : Option AddressNumbers) → 106 ≤ length header → has_byte 0 group ≡ false
    → has_byte 0 set ≡ false → key_of (set_in (set_key header group set receiver)) ≡ set_key header group set receiver
