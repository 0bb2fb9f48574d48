use Rattle.std.proofs.Common.{◌≡◌, true, take}
use Rattle.std.specs.List.{list_all}
use Rattle.env_index.specs.Faults.{is_set_header}
use Rattle.env_index.proofs.faults.group_has_set_headers.Given as goal

abbrev pub invariant-loop-index : goal.invariant-loop-index
invariant-loop-index l = list_all (λ set. is_set_header set.header) (take l.index l.group.sets) ≡ true
