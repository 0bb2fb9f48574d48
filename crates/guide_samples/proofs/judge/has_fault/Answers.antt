use Rattle.std.proofs.Common.{◌∙◌, sym}
use Rattle.guide_samples.proofs.OneFault.{one_item}
use Rattle.guide_samples.proofs.judge.has_fault.Goals as goal

pub returns-then-len-eq1-clause-alone : goal.returns-then-len-eq1-clause-alone
returns-then-len-eq1-clause-alone c is = record {
  fault = c.at.result;
  alone = sym c.faults-faults.ensures.value
      ∙ one_item c.faults-faults.result.now c.at.result (sym c.len.ensures.value ∙ c.if-len-eq1.true) c.at.ensures;
  such = c.is_expected.ensures.rule is;
  has = c.is_expected.ensures.code is;
  own = c.is_expected.ensures.own is;
}
