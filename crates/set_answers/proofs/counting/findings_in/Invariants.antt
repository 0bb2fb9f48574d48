use Rattle.std.proofs.Common.{◌≡◌, ◌+◌, drop}
use Rattle.set_answers.specs.Counted.{asked_in_groups}
use Rattle.set_answers.proofs.counting.findings_in.Given as goal

abbrev pub invariant-loop-index : goal.invariant-loop-index
invariant-loop-index l =
    l.findings + asked_in_groups (drop l.index l.interchange.content.groups) ≡ asked_in_groups l.interchange.content.groups
