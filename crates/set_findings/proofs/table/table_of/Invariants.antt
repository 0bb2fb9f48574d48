use Rattle.std.proofs.Common.{◌-◌, map, drop, length}
use Rattle.partner_setup.specs.Tables.{KeepsPlaces}
use Rattle.set_findings.specs.Keys.{key_at}
use Rattle.set_findings.proofs.table.table_of.Given as goal

abbrev pub invariant-loop-behind : goal.invariant-loop-behind
invariant-loop-behind l =
    KeepsPlaces l.table (length l.places - l.behind) (map (key_at l.guides) (drop (length l.places - l.behind) l.places))
