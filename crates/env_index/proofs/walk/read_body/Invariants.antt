use Rattle.std.proofs.Common.{◌≡◌, ◌+◌, ◌≤◌, length}
use Rattle.env_index.specs.Reading.{state_of}
use Rattle.env_index.specs.Source.{reach_over}
use Rattle.env_index.proofs.Tails.{tails, summed}
use Rattle.env_index.proofs.Steps.{resume}
use Rattle.env_index.proofs.walk.read_body.Given as goal

-- what was read, with what comes, is the interchange
abbrev pub invariant-loop-start : goal.invariant-loop-start
invariant-loop-start g l = record {
  text : g.P.PartSource.text l.parts ≡ l.text;
  behind : g.P.PartSource.at l.initial.parts ≤ g.P.PartSource.at l.parts;
  few : l.builder.seen + 106 ≤ g.P.PartSource.at l.parts;
  end : (reach_over l.text l.delims (g.P.PartSource.segs l.parts) (g.P.PartSource.rest l.parts)).end
      ≡ (reach_over l.text l.delims (g.P.PartSource.segs l.initial.parts) (g.P.PartSource.rest l.initial.parts)).end;
  whole : resume (state_of l.text l.delims l.builder)
      (tails (reach_over l.text l.delims (g.P.PartSource.segs l.parts) (g.P.PartSource.rest l.parts)).segs)
      ≡ summed (reach_over l.text l.delims (g.P.PartSource.segs l.initial.parts) (g.P.PartSource.rest l.initial.parts)).segs;
}

abbrev pub decreases-loop-start : goal.decreases-loop-start
decreases-loop-start g l = length (g.P.PartSource.segs l.parts)
