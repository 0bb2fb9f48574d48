use Rattle.guide_samples.proofs.Judged.{sample}
use Rattle.guide_samples.proofs.judge.meets.Goals as goal

pub returns-in-Some : goal.returns-in-Some
returns-in-Some c clean =
    sample c.meetings_are_one.ensures c.args.guide.now c.rows-rows.ensures.accepted c.in-Some.set c.args.text.now
    (rw c.in-Some.is at c.in_ok-checked.ensures.text) (rw c.in-Some.is at c.in_ok-checked.ensures.guide)
    (rw c.in-Some.is at c.in_ok-checked.ensures.only) (c.is_clean.ensures.0 clean)
