use Rattle.std.proofs.Common.{ℕ, List, subst}
use Rattle.partner_setup.specs.SetupFile.{setup_of_table}
use Rattle.key_errors.specs.KeysSaid.{setup_keys_said}
use Rattle.setup_errors.specs.RowsSaid.{setup_said}
use Rattle.check_command.specs.Further.{IsFileFurther}
use Rattle.check_command.proofs.Behind.{rows_behind, rows_taken}
use Rattle.check_command.proofs.further.of_setup.Goals as goal

pub returns-in_ok-setup_rows-in-Ok : goal.returns-in_ok-setup_rows-in-Ok
returns-in_ok-setup_rows-in-Ok c =
    rows_taken setup_of_table setup_keys_said setup_said c.args.bytes.now c.as_slice.result.now c.in-Ok.rows
    c.in_ok-setup_rows-in-Ok.field-0 (cc) c.in-Ok.ensures.table c.in-Ok.ensures.not_toml c.in_ok-setup_rows-in-Ok.ensures

pub returns-in_ok-behind_setup-in-Err : goal.returns-in_ok-behind_setup-in-Err
returns-in_ok-behind_setup-in-Err c =
    let said = c.in_ok-behind_setup-in-Err.field-0 in
    rows_behind setup_of_table setup_keys_said setup_said c.args.bytes.now c.as_slice.result.now c.in-Err.fault said (cc)
    c.in-Err.ensures.table c.in-Err.ensures.not_toml c.in_ok-behind_setup-in-Err.ensures.told
    (subst (λ (b : List ℕ). IsFileFurther setup_keys_said b c.in-Err.fault said) (cc) c.in_ok-behind_setup-in-Err.ensures.said)
