use Rattle.std.proofs.Common.{List, Some, refl, subst, sym}
use Rattle.guide_toml.proofs.ForAbove.{fault_is, rows_are}
use Rattle.partner_setup.specs.CountersFile.{counters_of_table}
use Rattle.partner_setup.specs.declared.rows.CounterRow.{CounterRow}
use Rattle.hub_tonight.specs.Files.{AreFirst}
use Rattle.hub_tonight.proofs.Refusing.{first_are, first_refused, some_bytes}
use Rattle.hub_tonight.proofs.made.first_rows.Goals as goal

pub returns-in-Ok-clause-rows : goal.returns-in-Ok-clause-rows
returns-in-Ok-clause-rows c =
    let bytes = c.args.bytes.now in
    subst (λ (rows : List CounterRow). AreFirst bytes rows) (sym c.into_vec.ensures)
    (first_are bytes c.in-Ok.rows (some_bytes bytes c.if-is_empty.ensures)
    (rows_are counters_of_table (Some bytes) bytes c.in-Ok.rows refl c.in-Ok.ensures.table c.in-Ok.ensures.not_toml))

pub returns-in-Err-clause-refused : goal.returns-in-Err-clause-refused
returns-in-Err-clause-refused c =
    rw (c.of_first.ensures)
    (first_refused c.args.bytes.now c.in-Err.fault (some_bytes c.args.bytes.now c.if-is_empty.ensures)
    (λ memory. fault_is counters_of_table c.args.bytes.now c.in-Err.fault c.in-Err.ensures.table c.in-Err.ensures.not_toml memory))
