use Rattle.std.proofs.Common.{ℕ, List, subst}
use Rattle.partner_setup.specs.SetupFile.{setup_of_table}
use Rattle.key_errors.specs.KeyWords.{setup_key_words}
use Rattle.check_command.specs.SetupFiles.{IsFileSaid}
use Rattle.guide_toml.proofs.ForAbove.{rows_are}
use Rattle.check_command.proofs.Reading.{rows_refused}
use Rattle.check_command.proofs.judged.judge_rows.Goals as goal

pub returns-in-Ok : goal.returns-in-Ok
returns-in-Ok c =
    rows_are setup_of_table c.args.bytes.now c.as_slice.result.now c.in-Ok.rows (cc) c.in-Ok.ensures.table c.in-Ok.ensures.not_toml

pub returns-in_ok-setup_refusal-in-Err : goal.returns-in_ok-setup_refusal-in-Err
returns-in_ok-setup_refusal-in-Err c =
    let text = c.in_ok-setup_refusal-in-Err.field-0 in
    rows_refused setup_of_table setup_key_words c.args.bytes.now c.as_slice.result.now c.in-Err.fault text (cc)
    c.in-Err.ensures.table c.in-Err.ensures.not_toml c.in_ok-setup_refusal-in-Err.ensures.told
    (subst (λ (b : List ℕ). IsFileSaid setup_key_words b c.in-Err.fault text) (cc)
    c.in_ok-setup_refusal-in-Err.ensures.said)
