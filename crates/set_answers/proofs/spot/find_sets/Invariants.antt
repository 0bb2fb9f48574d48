use Rattle.std.proofs.Common.{[], take}
use Rattle.set_answers.specs.AlsoFound.{AreAlsoFound}
use Rattle.set_answers.specs.Answers.{controls_of}
use Rattle.set_answers.specs.Asked.{sets_asked}
use Rattle.set_answers.specs.Known.{KnowsLent}
use Rattle.set_answers.proofs.spot.find_sets.Given as goal

-- what is asked of the sets so far is found out, and their numbers are known
abbrev pub invariant-loop-index : goal.invariant-loop-index
invariant-loop-index l = record {
  found : AreAlsoFound (sets_asked l.sent l.group.header [] (take l.index l.group.sets)) l.initial.found.items l.found.items;
  known : KnowsLent l.seen (controls_of (take l.index l.group.sets));
}
