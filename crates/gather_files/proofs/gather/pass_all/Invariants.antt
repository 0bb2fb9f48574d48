use Rattle.std.proofs.Common.{◌≡◌, ◌≤◌, ◌-◌, ℕ, List, Option}
use Rattle.gather_files.specs.Gathering.{IsBegun, IsPassed}
use Rattle.gather_files.proofs.gather.pass_all.Given as goal

abbrev pub invariant-loop-held : goal.invariant-loop-held
invariant-loop-held g l = record {
  passed : (first : Option (List ℕ)) → IsBegun first (g.S.Source.remaining l.initial.file) l.initial.held
      → IsPassed first (g.S.Source.remaining l.file) (g.W.Write.contents l.initial.out) (g.W.Write.contents l.out) l.held l.passing;
  few : l.held.total ≤ 4294967295;
  faults : g.S.Source.faults l.file ≡ g.S.Source.faults l.initial.file;
}

abbrev pub decreases-loop-held : goal.decreases-loop-held
decreases-loop-held g l = 4294967296 - l.held.total
