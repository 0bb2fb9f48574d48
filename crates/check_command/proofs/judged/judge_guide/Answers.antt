use Rattle.std.proofs.Common.{ℕ, List, subst}
use Rattle.check_command.specs.SetupFiles.{IsSaidOf}
use Rattle.guide_toml.proofs.ForAbove.{guide_is}
use Rattle.check_command.proofs.Reading.{guide_refused}
use Rattle.check_command.proofs.judged.judge_guide.Goals as goal

pub returns-in-Ok : goal.returns-in-Ok
returns-in-Ok c =
    guide_is c.args.bytes.now c.as_slice.result.now c.in-Ok.guide (cc) c.in-Ok.ensures.table c.in-Ok.ensures.not_toml

pub returns-in_ok-refusal_of-in-Err : goal.returns-in_ok-refusal_of-in-Err
returns-in_ok-refusal_of-in-Err c =
    guide_refused c.args.bytes.now c.as_slice.result.now c.in-Err.fault c.in_ok-refusal_of-in-Err.field-0 (cc) c.in-Err.ensures.table
    c.in-Err.ensures.not_toml c.in_ok-refusal_of-in-Err.ensures.told
    (subst (λ (b : List ℕ). IsSaidOf b c.in-Err.fault c.in_ok-refusal_of-in-Err.field-0) (cc) c.in_ok-refusal_of-in-Err.ensures.said)
