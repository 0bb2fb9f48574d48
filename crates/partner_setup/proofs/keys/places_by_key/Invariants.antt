use Rattle.std.proofs.Common.{◌-◌, map, drop, length}
use Rattle.partner_setup.specs.Tables.{KeepsPlaces}
use Rattle.partner_setup.proofs.keys.places_by_key.Given as goal

abbrev pub invariant-loop-behind : goal.invariant-loop-behind
invariant-loop-behind g l = KeepsPlaces l.table (length l.rows - l.behind) (map g.T.Kept.key (drop (length l.rows - l.behind) l.rows))
