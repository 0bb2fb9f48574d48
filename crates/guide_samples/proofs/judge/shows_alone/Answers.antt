use Rattle.std.proofs.Common.{◌≡◌, ◌∙◌, arith, length, sym}
use Rattle.guide_samples.proofs.OneFault.{one_item}
use Rattle.guide_samples.proofs.judge.shows_alone.Goals as goal

pub returns-then-has_its_code-clause-alone : goal.returns-then-has_its_code-clause-alone
returns-then-has_its_code-clause-alone c is =
    let one : length c.faults-faults.result.now ≡ 1 = omega (arith, c.if-len-ne1.false, c.len.ensures.value) in
    record {
      fault = c.at-fault.result;
      alone = sym c.faults-faults.ensures.value ∙ one_item c.faults-faults.result.now c.at-fault.result one c.at-fault.ensures;
      such = sym c.shows.ensures ∙ is;
      has = c.has_its_code.ensures.code c.if-has_its_code.true;
      own = c.has_its_code.ensures.own c.if-has_its_code.true;
    }
