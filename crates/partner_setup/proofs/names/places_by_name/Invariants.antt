use Rattle.std.proofs.Common.{◌-◌, map, drop, length}
use Rattle.partner_setup.specs.Known.{KnowsPlaces}
use Rattle.partner_setup.proofs.names.places_by_name.Given as goal

abbrev pub invariant-loop-behind : goal.invariant-loop-behind
invariant-loop-behind g l = KnowsPlaces l.places (length l.rows - l.behind) (map g.T.Named.name (drop (length l.rows - l.behind) l.rows))
