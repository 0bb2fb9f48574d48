use Rattle.std.proofs.Common.{◌≡◌, ◌≤◌, ◌-◌, ◌+◌, cond, false}
use Rattle.std.specs.Io.KnownBytes.{IsAtEnd}
use Rattle.gather_files.specs.Gathering.{IsLed}
use Rattle.gather_files.proofs.gather.begin.Given as goal

abbrev pub invariant-loop-more : goal.invariant-loop-more
invariant-loop-more g l = record {
  led : IsLed (g.S.Source.remaining l.initial.file) (g.S.Source.remaining l.file) l.held;
  end : l.more ≡ false → IsAtEnd (g.S.Source.remaining l.file);
  few : l.held.total ≤ 4294967295;
  faults : g.S.Source.faults l.file ≡ g.S.Source.faults l.initial.file;
}

abbrev pub decreases-loop-more : goal.decreases-loop-more
decreases-loop-more g l = (4294967295 - l.held.total) + (4294967295 - l.held.total) + cond l.more 1 0
