use Rattle.std.proofs.Common.{◌≡◌, ◌+◌, ◌≤◌, ◌++◌, length, drop}
use Rattle.x12_write.specs.Extends.{Extends}
use Rattle.x12_write.specs.Group.{texts_in_row}
use Rattle.set_answers.specs.Acknowledgments.{present, reports_from}
use Rattle.set_answers.proofs.reports.append_each.Given as goal

-- what is written, with what is left to write, is all; so is what is counted
abbrev pub invariant-loop-group : goal.invariant-loop-group
invariant-loop-group l = record {
  text : l.out.items ++ texts_in_row (reports_from l.delims (l.count + 1) (present (drop l.group-index l.groups)))
      ≡ l.initial.out.items ++ texts_in_row (reports_from l.delims 1 (present l.groups));
  count : l.count + length (present (drop l.group-index l.groups)) ≡ length (present l.groups);
  kept : Extends l.initial.out.items l.out.items;
  bound : l.count ≤ l.group-index;
}
