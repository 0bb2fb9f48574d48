use Rattle.std.proofs.Common.{ℕ, List, subst}
use Rattle.check_command.specs.Further.{IsGuideFurther}
use Rattle.check_command.proofs.Behind.{guide_behind, guide_taken}
use Rattle.check_command.proofs.further.of_guide.Goals as goal

pub returns-in-Ok : goal.returns-in-Ok
returns-in-Ok c =
    guide_taken c.args.bytes.now c.as_slice.result.now c.in-Ok.guide c.nothing_of.result (cc) c.in-Ok.ensures.table
    c.in-Ok.ensures.not_toml c.nothing_of.ensures

pub returns-in_ok-behind_guide-in-Err : goal.returns-in_ok-behind_guide-in-Err
returns-in_ok-behind_guide-in-Err c =
    let said = c.in_ok-behind_guide-in-Err.field-0 in
    guide_behind c.args.bytes.now c.as_slice.result.now c.in-Err.fault said (cc) c.in-Err.ensures.table
    c.in-Err.ensures.not_toml c.in_ok-behind_guide-in-Err.ensures.told
    (subst (λ (b : List ℕ). IsGuideFurther b c.in-Err.fault said) (cc) c.in_ok-behind_guide-in-Err.ensures.said)
