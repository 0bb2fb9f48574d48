use Rattle.std.proofs.Common.{◌≡◌, ◌++◌, ◌+◌, ◌≤◌, take, length}
use Rattle.std.specs.List.{flat_map}
use Rattle.mailbox.specs.Read.{text_as_read}
use Rattle.x12_write.specs.Extends.{Extends}
use Rattle.mailbox.proofs.inner.append_each_as_read.Given as goal

-- what is written, with what is left to write, is all
abbrev pub invariant-loop-count : goal.invariant-loop-count
invariant-loop-count l = record {
  text : l.out.items ++ flat_map (text_as_read l.from) (take l.count l.left)
      ≡ l.initial.out.items ++ flat_map (text_as_read l.from) (take l.most l.initial.left);
  kept : Extends l.initial.out.items l.out.items;
  count : l.written + length (take l.count l.left) ≡ length (take l.most l.initial.left);
  bound : l.written + l.count ≤ l.most;
}
