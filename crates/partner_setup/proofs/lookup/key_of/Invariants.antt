use Rattle.std.proofs.Common.{◌≡◌, ◌+◌, ◌++◌, length, take}
use Rattle.partner_setup.proofs.lookup.key_of.Given as goal

abbrev pub invariant-loop-i : goal.invariant-loop-i
invariant-loop-i l = record { written : take (2 + l.i) l.key ≡ l.qualifier ++ take l.i l.id; len : length l.key ≡ 17 }
