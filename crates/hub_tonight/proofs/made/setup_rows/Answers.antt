use Rattle.std.proofs.Common.{Some, refl}
use Rattle.guide_toml.proofs.ForAbove.{fault_is, rows_are}
use Rattle.partner_setup.specs.SetupFile.{setup_of_table}
use Rattle.hub_tonight.proofs.Refusing.{setup_refused}
use Rattle.hub_tonight.proofs.made.setup_rows.Goals as goal

pub returns-in-Ok-clause-rows : goal.returns-in-Ok-clause-rows
returns-in-Ok-clause-rows c =
    rows_are setup_of_table (Some c.args.bytes.now) c.args.bytes.now c.in-Ok.rows refl c.in-Ok.ensures.table c.in-Ok.ensures.not_toml

pub returns-in-Err-clause-refused : goal.returns-in-Err-clause-refused
returns-in-Err-clause-refused c =
    rw (c.of_setup_file.ensures)
    (setup_refused c.args.bytes.now c.in-Err.fault
    (λ memory. fault_is setup_of_table c.args.bytes.now c.in-Err.fault c.in-Err.ensures.table c.in-Err.ensures.not_toml memory))
