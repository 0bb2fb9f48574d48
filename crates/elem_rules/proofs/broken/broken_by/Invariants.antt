use Rattle.std.proofs.Common.{take}
use Rattle.std.specs.List.{flat_map}
use Rattle.elem_rules.specs.Clean.{is_set}
use Rattle.elem_rules.specs.Marks.{AreBits, missing_at, excluded_at}
use Rattle.elem_rules.proofs.broken.broken_by.Given as goal

abbrev pub invariant-loop-condition : goal.invariant-loop-condition
invariant-loop-condition l = record {
  missing : AreBits l.broken.missing (flat_map (missing_at (is_set l.present)) (take l.condition-index l.conditions));
  excluded : AreBits l.broken.excluded (flat_map (excluded_at (is_set l.present)) (take l.condition-index l.conditions));
}
