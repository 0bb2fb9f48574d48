-- Own: the tables of guide files, setup files and counters files, and their keys.
use Rattle.std.specs.Prelude.{ℕ, List}
use Rattle.guide_toml.specs.Keys.{keys_of as guide_keys_of}
use Rattle.guide_toml.specs.declared.keys.TableKind.TheVariants as guide
use Rattle.partner_setup.specs.CountersFile.{file_keys, second_keys}
use Rattle.partner_setup.specs.SetupFile.{hub_keys, partner_keys, route_keys, top_keys}
use Rattle.key_errors.specs.declared.key_tables.KeyTable.{KeyTable}
use Rattle.key_errors.specs.declared.key_tables.KeyTable.TheVariants as table

-- the keys that such a table may have
abbrev pub keys_of : KeyTable → List (List ℕ)
keys_of table.Setup = top_keys
keys_of table.Hub = hub_keys
keys_of table.Partner = partner_keys
keys_of table.Route = route_keys
keys_of table.Counters = file_keys
keys_of table.Counter = second_keys
keys_of table.Guide = guide_keys_of guide.Guide
keys_of table.Hierarchy = guide_keys_of guide.Hierarchy
keys_of table.Dependency = guide_keys_of guide.Dependency
keys_of table.Node = guide_keys_of guide.Unclear
