use Rattle.std.proofs.Common.{◌≡◌, ◌≤◌, ◌+◌, map, take}
use Rattle.gather_command.specs.Members.{AreGathered}
use Rattle.gather_command.proofs.all.gather_all.Given as goal

abbrev pub invariant-loop-path : goal.invariant-loop-path
invariant-loop-path g l = record {
  gathered : AreGathered (map (λ p. p.now) (take l.path-index l.paths)) (g.W.Write.contents l.initial.out) (g.W.Write.contents l.out)
      l.lines.items l.total;
  count : l.total.taken + l.total.set_aside ≡ l.path-index;
  cut : l.total.cut_off ≤ l.total.taken;
  few : l.total.bytes ≤ 4294967295;
}
