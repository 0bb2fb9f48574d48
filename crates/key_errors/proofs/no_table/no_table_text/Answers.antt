use Rattle.std.proofs.Common.{◌∙◌}
use Rattle.std.proofs.lemmas.Result.{IfOk-weaker}
use Rattle.key_errors.proofs.NoTables.{no_toml, no_utf8}
use Rattle.key_errors.proofs.no_table.no_table_text.Goals as goal

pub returns-in-Err : goal.returns-in-Err
returns-in-Err c =
    IfOk-weaker c.text_at.result _ _
    (λ text said. no_utf8 c.args.bytes.now text c.valid_up_to.result c.in-Err.ensures.cases.0
    (c.valid_up_to.ensures ∙ c.in-Err.ensures.valid_len) said)
    c.text_at.ensures

pub returns-in_ok-fault-in-Ok : goal.returns-in_ok-fault-in-Ok
returns-in_ok-fault-in-Ok c =
    IfOk-weaker c.text_at-in-Ok.result _ _
    (λ text said. no_toml c.args.bytes.now c.in-Ok.text.now text c.in_ok-fault-in-Ok.fault.offset c.in_ok-fault-in-Ok.fault.cause.now
    c.in-Ok.ensures.cases.0 c.in-Ok.ensures.cases.1 c.in_ok-fault-in-Ok.ensures said)
    c.text_at-in-Ok.ensures
