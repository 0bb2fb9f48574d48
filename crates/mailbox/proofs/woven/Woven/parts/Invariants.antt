use Rattle.std.proofs.Common.{◌≡◌, ◌-◌, ◌≤◌, ◌++◌, drop, length}
use Rattle.x12_write.specs.Group.{texts_in_row}
use Rattle.mailbox.specs.Woven.{AreCuts, woven}
use Rattle.mailbox.proofs.woven.Woven.parts.Given as goal

-- the parts so far, with what is left to weave, are all
abbrev pub invariant-loop-i : goal.invariant-loop-i
invariant-loop-i l = record {
  cuts : AreCuts l.from (length l.self-inside.ends.items) (length l.self-inside.sets - l.set) (drop l.i l.self-inside.cuts.items);
  within : l.set ≤ length l.self-inside.sets;
  text : texts_in_row l.parts.items
      ++ woven l.self-inside.ends.items l.from (drop l.i l.self-inside.cuts.items) (drop l.set l.self-inside.sets)
      ≡ l.self;
}
