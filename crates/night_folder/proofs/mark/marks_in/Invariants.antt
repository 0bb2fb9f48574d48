use Rattle.std.proofs.Common.{◌≡◌, ◌++◌}
use Rattle.std.specs.List.{filter_map}
use Rattle.night_folder.proofs.mark.marks_in.Given as goal

abbrev pub invariant-loop-mark : goal.invariant-loop-mark
invariant-loop-mark l = l.nights.items ++ filter_map (λ mark. mark) l.mark-iterator.rest.items ≡ filter_map (λ mark. mark) l.fn.found.items
