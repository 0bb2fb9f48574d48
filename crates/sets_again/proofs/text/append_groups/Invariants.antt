use Rattle.std.proofs.Common.{◌≡◌, ◌+◌, ◌≤◌, ◌++◌, drop}
use Rattle.sets_again.specs.Text.{groups_count, groups_text}
use Rattle.sets_again.proofs.text.append_groups.Given as goal

abbrev pub invariant-loop-i : goal.invariant-loop-i
invariant-loop-i l = record {
  few : l.count ≤ l.i;
  counted : l.count + groups_count (drop l.i l.interchange.content.groups) l.rest ≡ groups_count l.interchange.content.groups l.chosen;
  written : l.out.items ++ groups_text l.text l.delims (drop l.i l.interchange.content.groups) l.rest
      ≡ l.fn.out.items ++ groups_text l.text l.delims l.interchange.content.groups l.chosen;
}
