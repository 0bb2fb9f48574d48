use Rattle.std.proofs.Common.{◌≡◌, ◌++◌}
use Rattle.std.specs.Prelude.{filter}
use Rattle.night_review.specs.Nights.{is_after}
use Rattle.night_review.proofs.nights.later_than.Given as goal

abbrev pub invariant-loop-mark : goal.invariant-loop-mark
invariant-loop-mark l =
    l.later.items ++ filter (is_after l.name) l.mark-iterator.rest.items ≡ filter (is_after l.name) l.fn.listed.items
