use Rattle.std.proofs.Common.{◌≡◌, drop}
use Rattle.night_record.specs.Values.{rise_after}
use Rattle.night_record.proofs.addresses.rise_after.Given as goal

abbrev pub invariant-loop-i : goal.invariant-loop-i
invariant-loop-i l = rise_after l.last (drop l.i l.texts) ≡ rise_after l.fn.first l.texts
