-- Own: a table that is lent, as it is seen.
use Rattle.toml.specs.View.{table_view}
use Rattle.key_errors.specs.Spots as spots
use Rattle.key_errors.specs.declared.spot.Spot.{Spot}

abbrev pub seen : Spot → spots.Spot
seen s = (s.kind, s.number, table_view s.table.now)
