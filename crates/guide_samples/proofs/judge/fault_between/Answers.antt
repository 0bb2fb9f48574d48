use Rattle.std.proofs.Common.{refl}
use Rattle.std.specs.Prelude.{IsTrue}
use Rattle.difference_faults.specs.Shows.{shows}
use Rattle.guide_samples.proofs.Judged.{one_fault}
use Rattle.guide_samples.proofs.judge.fault_between.Goals as goal

pub returns : goal.returns
returns c =
    one_fault c.faults_are_one.ensures c.set_codes_are_one.ensures c.verdicts_are_one.ensures c.acknowledgments_are_one.ensures
    c.texts_are_one.ensures c.args.guide.now c.rows-rows.ensures.accepted c.in-Some.set c.args.text.now
    (rw c.in-Some.is at c.in_ok-set.ensures.text) (rw c.in-Some.is at c.in_ok-set.ensures.guide)
    (rw c.in-Some.is at c.in_ok-set.ensures.only) c.shows_alone.ensures.exact c.shows_alone.ensures.rising
    (λ f. IsTrue (shows c.args.part.now c.args.difference.now f)) (c.if-not-shows_alone.ensures.alone refl) c.in_ok-answer_to.field-0
    c.in_ok-answer_to.ensures
