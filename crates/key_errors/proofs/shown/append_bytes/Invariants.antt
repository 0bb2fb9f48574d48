use Rattle.std.proofs.Common.{◌≡◌, ◌++◌, drop}
use Rattle.key_errors.specs.Shown.{shown_bytes}
use Rattle.key_errors.proofs.shown.append_bytes.Given as goal

abbrev pub invariant-loop-i : goal.invariant-loop-i
invariant-loop-i l = l.out.items ++ shown_bytes (drop l.i l.text) ≡ l.initial.out.items ++ shown_bytes l.text
