use Rattle.std.proofs.Common.{true≢false, ◌≤◌, length, sym, arith}
use Rattle.work_core.proofs.Completing.{all_claimed, claimed_all}
use Rattle.work_core.proofs.complete.is_all_done.Goals as goal

pub returns-then-next-jobs : goal.returns-then-next-jobs
returns-then-next-jobs c = (
  λ h. absurd (true≢false (sym h)),
  λ done. let all = claimed_all (length c.args.jobs.now) c.args.next done.claimed_once in absurd (omega arith),
)

pub returns : goal.returns
returns c =
    let claimed : length c.args.jobs.now ≤ c.args.next = omega arith in (
      λ h. record {
        claimed_once = all_claimed (length c.args.jobs.now) c.args.next claimed;
        finished_once = c.is_finished_once.ensures.0 c.if-not-is_finished_once.false;
        recorded_once = c.is_recorded_once.ensures.0 h;
      },
      λ done. c.is_recorded_once.ensures.1 done.recorded_once,
    )
