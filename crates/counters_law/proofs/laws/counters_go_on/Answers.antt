use Rattle.counters_law.proofs.Together.{read_back, taken}
use Rattle.counters_law.proofs.laws.counters_go_on.Goals as goal

pub returns : goal.returns
returns c = λ rows counters guides next none sized ranges.
    (read_back rows counters guides next none ranges, taken rows counters guides next none ranges)
