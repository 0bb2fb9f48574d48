use Rattle.std.proofs.Common.{◌≡◌, ◌++◌}
use Rattle.mailbox.specs.Mailbox.{mapped_elements}
use Rattle.x12_write.specs.Extends.{Extends}
use Rattle.mailbox.proofs.mapped.append_mapped_elements.Given as goal

-- what is written, with what is left to write, is all
abbrev pub invariant-loop-part : goal.invariant-loop-part
invariant-loop-part l = record {
  text : l.out.items ++ mapped_elements l.from l.to l.left ≡ l.initial.out.items ++ mapped_elements l.from l.to l.initial.left;
  kept : Extends l.initial.out.items l.out.items;
}
