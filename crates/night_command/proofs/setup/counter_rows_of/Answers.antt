use Rattle.partner_setup.specs.CountersFile.{counters_of_table}
use Rattle.guide_toml.proofs.ForAbove.{rows_are}
use Rattle.night_command.proofs.SettingUp.{counters_fail}
use Rattle.night_command.proofs.setup.counter_rows_of.Goals as goal

pub returns-in-Ok-clause-rows : goal.returns-in-Ok-clause-rows
returns-in-Ok-clause-rows c =
    rows_are counters_of_table c.args.file.now.bytes c.as_slice.result.now c.in-Ok.rows (cc) c.in-Ok.ensures.table c.in-Ok.ensures.not_toml

pub returns-in-Err-clause-refused : goal.returns-in-Err-clause-refused
returns-in-Err-clause-refused c =
    rw (c.of_counters.ensures)
    (counters_fail c.args.file.now.bytes c.as_slice.result.now c.in-Err.fault (cc) c.in-Err.ensures.table c.in-Err.ensures.not_toml)
