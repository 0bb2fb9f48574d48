use Rattle.std.proofs.Common.{◌≡◌, ◌++◌, drop}
use Rattle.x12_write.specs.Extends.{Extends}
use Rattle.ack_999.specs.Faults.{notes, notes_behind, notes_text}
use Rattle.ack_999.proofs.faults.append_faults.Given as goal

-- what is reported so far, with what is reported of the faults that are left, is what is reported of all
abbrev pub invariant-loop-i : goal.invariant-loop-i
invariant-loop-i l = record {
  told : l.out.items ++ notes_text l.delims (notes_behind l.before (drop l.i l.faults))
      ≡ l.initial.out.items ++ notes_text l.delims (notes l.faults);
  kept : Extends l.initial.out.items l.out.items;
}
