use Rattle.std.proofs.Common.{◌≡◌, ◌+◌, ◌++◌, length, take}
use Rattle.number_register.proofs.interchange_key.put.Given as goal

-- the bytes in front stay, and those of the field so far stand after them
abbrev pub invariant-loop-i : goal.invariant-loop-i
invariant-loop-i l = record {
  written : take (l.at + l.i) l.key ≡ take l.at l.initial.key ++ take l.i l.field;
  len : length l.key ≡ 43;
}
