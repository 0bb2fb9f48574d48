use Rattle.std.proofs.Common.{Some, refl}
use Rattle.partner_setup.specs.CountersFile.{counters_of_table}
use Rattle.guide_toml.proofs.ForAbove.{rows_are}
use Rattle.night_entries.proofs.Reading.{file_fails}
use Rattle.night_entries.proofs.entry.counters_of.Goals as goal

pub returns-in-Ok-clause-rows : goal.returns-in-Ok-clause-rows
returns-in-Ok-clause-rows c =
    rows_are counters_of_table (Some c.args.bytes.now) c.args.bytes.now c.in-Ok.rows refl c.in-Ok.ensures.table c.in-Ok.ensures.not_toml

pub returns-in-Err-clause-refused : goal.returns-in-Err-clause-refused
returns-in-Err-clause-refused c =
    rw (c.fault_of.ensures)
    (file_fails counters_of_table c.args.paper c.args.bytes.now c.in-Err.fault c.in-Err.ensures.table c.in-Err.ensures.not_toml)
