use Rattle.std.proofs.Common.{◌≡◌, ◌++◌, ◌+◌, map, drop}
use Rattle.std.specs.List.{All}
use Rattle.worker_pool.specs.Asked.{IsJudgeJob, judge_asked}
use Rattle.set_findings.specs.Pieces.{judges_from}
use Rattle.set_findings.proofs.judged.judge_jobs.Given as goal

abbrev pub invariant-loop-i : goal.invariant-loop-i
invariant-loop-i l = record {
  asked : map judge_asked l.jobs.items ++ judges_from l.index (l.i + 1) (drop l.i l.index.entries)
      ≡ judges_from l.index 1 l.index.entries;
  ready : All IsJudgeJob l.jobs.items;
}
