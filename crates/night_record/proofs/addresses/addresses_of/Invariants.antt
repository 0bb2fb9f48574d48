use Rattle.std.proofs.Common.{◌≡◌, map, take}
use Rattle.night_record.specs.Tables.{address_of}
use Rattle.night_record.proofs.addresses.addresses_of.Given as goal

abbrev pub invariant-loop-i : goal.invariant-loop-i
invariant-loop-i l = l.addresses.items ≡ map address_of (take l.i l.list)
