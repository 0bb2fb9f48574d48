use Rattle.std.proofs.Common.{[], take}
use Rattle.set_answers.specs.AlsoFound.{AreAlsoFound}
use Rattle.set_answers.specs.Asked.{groups_asked}
use Rattle.set_answers.specs.Known.{HasNumbersOf}
use Rattle.set_answers.proofs.spot.find_groups.Given as goal

-- what is asked of the groups so far is found out, and their numbers are known
abbrev pub invariant-loop-index : goal.invariant-loop-index
invariant-loop-index l = record {
  found : AreAlsoFound (groups_asked l.sent [] (take l.index l.interchange.content.groups)) l.initial.found.items l.found.items;
  known : HasNumbersOf l.numbers (take l.index l.interchange.content.groups);
}
