use Rattle.std.proofs.Common.{◌≡◌, ◌≤◌, ◌-◌}
use Rattle.stream_read.specs.Held.{HasRead}
use Rattle.stream_read.specs.Source.{TriedAgain}
use Rattle.stream_read.proofs.held.Held.fill.Given as goal

abbrev pub decreases-loop-left : goal.decreases-loop-left
decreases-loop-left g l = l.left

abbrev pub invariant-loop-left : goal.invariant-loop-left
invariant-loop-left g l = record {
  read : HasRead (g.S.Source.remaining l.initial.source) (g.S.Source.remaining l.source) l.initial.self l.self (l.window - l.left);
  few : l.self.total ≤ 4294967295;
  given : l.initial.self.total ≤ g.S.Source.given l.initial.source → l.self.total ≤ g.S.Source.given l.source;
  bound : l.left ≤ l.window;
  faults : g.S.Source.faults l.source ≡ g.S.Source.faults l.initial.source;
  rested : g.S.Source.interruptions l.source ≤ g.S.Source.interruptions l.initial.source;
  tried : TriedAgain (g.S.Source.interruptions l.initial.source) (g.S.Source.longest l.initial.source) (g.S.Source.longest l.source);
}
