use Rattle.std.proofs.Common.{◌≡◌, ◌≤◌, ◌-◌}
use Rattle.stream_read.specs.Source.{TriedAgain}
use Rattle.night_stream.specs.Reading.{IsReadUpTo}
use Rattle.night_stream.proofs.stream.stream_night.Given as goal

abbrev pub invariant-loop-reading : goal.invariant-loop-reading
invariant-loop-reading g l = record {
  read : IsReadUpTo l.setup l.at (g.S.Source.remaining l.initial.source) (g.S.Source.remaining l.source) l.held l.reading;
  few : l.held.total ≤ 4294967295;
  given : l.held.total ≤ g.S.Source.given l.source;
  faults : g.S.Source.faults l.source ≡ g.S.Source.faults l.initial.source;
  rested : g.S.Source.interruptions l.source ≤ g.S.Source.interruptions l.initial.source;
  tried : TriedAgain (g.S.Source.interruptions l.initial.source) (g.S.Source.longest l.initial.source) (g.S.Source.longest l.source);
}

abbrev pub decreases-loop-reading : goal.decreases-loop-reading
decreases-loop-reading g l = 4294967296 - l.held.total
