use Rattle.std.proofs.Common.{rules, true, false, true≢false, ◌≡◌, sym, ◌∙◌}
use Rattle.work_core.specs.Once.{each_recorded}
use Rattle.work_core.proofs.Completing.{once_none_other, once_recorded_each, recorded_once}
use Rattle.work_core.proofs.complete.is_recorded_once.Goals as goal

pub returns : goal.returns
returns c =
    let each : each_recorded c.args.recorded.now c.args.jobs.now ≡ true = search rules in (
      λ h. recorded_once c.args.jobs.now c.args.recorded.now each (sym c.is_no_other_recorded.ensures ∙ h),
      λ once. c.is_no_other_recorded.ensures ∙ once_none_other c.args.jobs.now c.args.recorded.now once,
    )

pub returns-then-not-is_each_recorded : goal.returns-then-not-is_each_recorded
returns-then-not-is_each_recorded c =
    let none : each_recorded c.args.recorded.now c.args.jobs.now ≡ false = search rules in (
      λ h. absurd (true≢false (sym h)),
      λ once. absurd (true≢false (sym (once_recorded_each c.args.jobs.now c.args.recorded.now once) ∙ none)),
    )
