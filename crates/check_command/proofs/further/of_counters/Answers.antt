use Rattle.std.proofs.Common.{ℕ, List, subst}
use Rattle.partner_setup.specs.CountersFile.{counters_of_table}
use Rattle.key_errors.specs.KeysSaid.{counters_keys_said}
use Rattle.setup_errors.specs.RowsSaid.{counters_said}
use Rattle.check_command.specs.Further.{IsFileFurther}
use Rattle.check_command.proofs.Behind.{rows_behind, rows_taken}
use Rattle.check_command.proofs.further.of_counters.Goals as goal

pub returns-in_ok-counter_rows-in-Ok : goal.returns-in_ok-counter_rows-in-Ok
returns-in_ok-counter_rows-in-Ok c =
    rows_taken counters_of_table counters_keys_said (counters_said 1) c.args.bytes.now c.as_slice.result.now c.in-Ok.rows
    c.in_ok-counter_rows-in-Ok.field-0 (cc) c.in-Ok.ensures.table c.in-Ok.ensures.not_toml c.in_ok-counter_rows-in-Ok.ensures

pub returns-in_ok-behind_counters-in-Err : goal.returns-in_ok-behind_counters-in-Err
returns-in_ok-behind_counters-in-Err c =
    let said = c.in_ok-behind_counters-in-Err.field-0 in
    rows_behind counters_of_table counters_keys_said (counters_said 1) c.args.bytes.now c.as_slice.result.now c.in-Err.fault said (cc)
    c.in-Err.ensures.table c.in-Err.ensures.not_toml c.in_ok-behind_counters-in-Err.ensures.told
    (subst (λ (b : List ℕ). IsFileFurther counters_keys_said b c.in-Err.fault said) (cc) c.in_ok-behind_counters-in-Err.ensures.said)
