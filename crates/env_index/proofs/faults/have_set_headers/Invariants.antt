use Rattle.std.proofs.Common.{◌≡◌, true, take}
use Rattle.std.specs.List.{list_all}
use Rattle.env_index.specs.Faults.{has_set_headers}
use Rattle.env_index.proofs.faults.have_set_headers.Given as goal

abbrev pub invariant-loop-index : goal.invariant-loop-index
invariant-loop-index l = list_all has_set_headers (take l.index l.interchange.content.groups) ≡ true
