use Rattle.std.proofs.Common.{◌≡◌, ◌++◌, take}
use Rattle.std.specs.List.{flat_map}
use Rattle.ack_999.specs.Report.{set_text}
use Rattle.ack_999.proofs.report.append_sets.Given as goal

abbrev pub invariant-loop-set : goal.invariant-loop-set
invariant-loop-set l = l.out.items ≡ l.initial.out.items ++ flat_map (set_text l.delims) (take l.set-index l.sets)
