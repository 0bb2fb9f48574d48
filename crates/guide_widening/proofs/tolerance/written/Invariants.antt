use Rattle.std.proofs.Common.{◌≡◌, ◌++◌, drop, map}
use Rattle.guide_widening.proofs.tolerance.written.Given as goal

abbrev pub invariant-loop-i : goal.invariant-loop-i
invariant-loop-i g l = l.texts.items ++ map g.C.Code.text (drop l.i l.codes) ≡ map g.C.Code.text l.codes
