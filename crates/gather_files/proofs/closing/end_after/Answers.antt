use Rattle.gather_files.proofs.OpenEnds.{ends_open}
use Rattle.gather_files.proofs.closing.end_after.Goals as goal

pub returns-in-Some-clause-ends : goal.returns-in-Some-clause-ends
returns-in-Some-clause-ends c = λ file count some.
    ends_open file c.args.bytes.now count c.from_the_front-advanced.result c.in-Some.inside c.open_end.result
    c.from_the_front-advanced.ensures c.in-Some.is c.open_end.ensures.value
