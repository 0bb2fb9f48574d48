use Rattle.std.proofs.Common.{refl}
use Rattle.guide_samples.proofs.Judged.{one_fault}
use Rattle.guide_samples.specs.Samples.{IsFaultOf}
use Rattle.guide_samples.proofs.judge.only_fault.Goals as goal

pub returns : goal.returns
returns c =
    one_fault c.faults_are_one.ensures c.set_codes_are_one.ensures c.verdicts_are_one.ensures c.acknowledgments_are_one.ensures
    c.texts_are_one.ensures c.args.guide.now c.rows-rows.ensures.accepted c.in-Some.set c.args.text.now
    (rw c.in-Some.is at c.in_ok-set.ensures.text) (rw c.in-Some.is at c.in_ok-set.ensures.guide)
    (rw c.in-Some.is at c.in_ok-set.ensures.only) c.has_fault.ensures.exact c.has_fault.ensures.rising (IsFaultOf c.args.expected.now.rule)
    (c.if-not-has_fault.ensures.alone refl) c.in_ok-answer_to.field-0 c.in_ok-answer_to.ensures
