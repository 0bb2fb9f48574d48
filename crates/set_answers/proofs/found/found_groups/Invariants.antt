use Rattle.std.proofs.Common.{◌≡◌, List, [], ◌++◌, take, drop, length}
use Rattle.std.specs.List.{AllZip}
use Rattle.set_answers.specs.Answers.{IsGroupAnswered}
use Rattle.set_answers.specs.Asked.{Asked, IsFound, groups_asked}
use Rattle.set_answers.specs.Pairs.{ArePairs}
use Rattle.set_answers.proofs.found.found_groups.Given as goal

-- the groups so far are answered, and what is left is about those that are left
abbrev pub invariant-loop-index : goal.invariant-loop-index
invariant-loop-index l = record {
  answered : ArePairs (λ n group answered. IsGroupAnswered l.sent (take n l.interchange.content.groups) group answered)
      l.interchange.content.groups l.answers.items;
  count : length l.answers.items ≡ l.index;
  rest : (more : List Asked) → AllZip IsFound (groups_asked l.sent [] l.interchange.content.groups ++ more) l.initial.findings
      → AllZip IsFound (groups_asked l.sent (take l.index l.interchange.content.groups) (drop l.index l.interchange.content.groups) ++ more)
      l.findings;
}
