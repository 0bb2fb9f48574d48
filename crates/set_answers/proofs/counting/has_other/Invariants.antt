use Rattle.std.proofs.Common.{◌≡◌, drop, not}
use Rattle.std.specs.List.{list_any}
use Rattle.answered_sets.specs.Judged.{is_fa}
use Rattle.set_answers.proofs.counting.has_other.Given as goal

abbrev pub invariant-loop-index : goal.invariant-loop-index
invariant-loop-index l =
    list_any (λ g. not (is_fa g)) (drop l.index l.interchange.content.groups)
    ≡ list_any (λ g. not (is_fa g)) l.interchange.content.groups
