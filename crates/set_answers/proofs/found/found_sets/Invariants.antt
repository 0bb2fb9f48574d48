use Rattle.std.proofs.Common.{◌≡◌, List, [], ◌++◌, take, drop, length}
use Rattle.std.specs.List.{AllZip}
use Rattle.set_answers.specs.Answers.{IsSetAnswer}
use Rattle.set_answers.specs.Asked.{Asked, IsFound, sets_asked}
use Rattle.set_answers.specs.Pairs.{ArePairs}
use Rattle.set_answers.proofs.found.found_sets.Given as goal

-- the sets so far are answered, and what is left is about those that are left
abbrev pub invariant-loop : goal.invariant-loop
invariant-loop l = record {
  answered : ArePairs (λ n set answer. IsSetAnswer l.sent l.group.header (take n l.group.sets) set answer) l.group.sets l.answers.items;
  count : length l.answers.items ≡ l.counter;
  rest : (more : List Asked) → AllZip IsFound (sets_asked l.sent l.group.header [] l.group.sets ++ more) l.initial.findings
      → AllZip IsFound (sets_asked l.sent l.group.header (take l.counter l.group.sets) (drop l.counter l.group.sets) ++ more) l.findings;
}
