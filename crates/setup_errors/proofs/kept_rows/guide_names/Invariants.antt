use Rattle.std.proofs.Common.{◌≡◌, map, take}
use Rattle.setup_errors.specs.KeptRows.{guide_name}
use Rattle.setup_errors.proofs.kept_rows.guide_names.Given as goal

abbrev pub invariant-loop-i : goal.invariant-loop-i
invariant-loop-i l = l.names.items ≡ map guide_name (take l.i l.guides)
