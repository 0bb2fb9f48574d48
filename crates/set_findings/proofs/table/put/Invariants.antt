use Rattle.std.proofs.Common.{◌≡◌, ◌+◌, ◌++◌, length, take}
use Rattle.set_findings.proofs.table.put.Given as goal

-- the bytes in front stay, and those of the text so far stand after them
abbrev pub invariant-loop-i : goal.invariant-loop-i
invariant-loop-i l = record {
  written : take (l.at + l.i) l.key ≡ take l.at l.initial.key ++ take l.i l.text;
  len : length l.key ≡ 48;
}
