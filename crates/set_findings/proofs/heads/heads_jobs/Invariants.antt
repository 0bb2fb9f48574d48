use Rattle.std.proofs.Common.{◌≡◌, map, take}
use Rattle.std.specs.List.{All}
use Rattle.cut_plan.specs.Plan.{pieces}
use Rattle.worker_pool.specs.Asked.{IsHeadsJob, heads_asked}
use Rattle.set_findings.specs.Pieces.{piece_asked}
use Rattle.set_findings.proofs.heads.heads_jobs.Given as goal

abbrev pub invariant-loop-i : goal.invariant-loop-i
invariant-loop-i l = record {
  asked : map heads_asked l.jobs.items ≡ map (piece_asked l.text) (take l.i (pieces l.cuts));
  ready : All IsHeadsJob l.jobs.items;
}
