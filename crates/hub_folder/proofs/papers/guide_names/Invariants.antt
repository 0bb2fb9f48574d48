use Rattle.std.proofs.Common.{◌≡◌, take}
use Rattle.std.specs.Prelude.{filter}
use Rattle.hub_folder.specs.Papers.{is_guide}
use Rattle.hub_folder.proofs.papers.guide_names.Given as goal

abbrev pub invariant-loop-i : goal.invariant-loop-i
invariant-loop-i l = l.guides.items ≡ filter is_guide (take l.i l.names)
