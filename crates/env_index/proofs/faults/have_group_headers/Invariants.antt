use Rattle.std.proofs.Common.{◌≡◌, true, take}
use Rattle.std.specs.List.{list_all}
use Rattle.env_index.specs.Faults.{is_group_header}
use Rattle.env_index.proofs.faults.have_group_headers.Given as goal

abbrev pub invariant-loop-index : goal.invariant-loop-index
invariant-loop-index l = list_all (λ group. is_group_header group.header) (take l.index l.interchange.content.groups) ≡ true
