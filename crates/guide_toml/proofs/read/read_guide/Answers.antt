use Rattle.std.proofs.Common.{Ok, Result, subst, sym}
use Rattle.guide_tree.specs.Words.{GuideTree}
use Rattle.guide_toml.specs.Answers.{Answers, Refuses}
use Rattle.guide_toml.specs.Refused.{Refused}
use Rattle.guide_toml.specs.declared.fault.GuideFileFault.TheVariants as fault
use Rattle.guide_toml.proofs.read.read_guide.Goals as goal

pub returns-in-Ok-check-clause-table : goal.returns-in-Ok-check-clause-table
returns-in-Ok-check-clause-table c t text parsed =
    subst (λ (read : Result GuideTree Refused). Answers (Ok c.in-Ok-check.guide) read) (sym (c.in-Ok.ensures.table t text parsed))
    (c.in-Ok-check.ensures.rows, c.in-Ok-check.ensures.accepted)

pub returns-in-Err-check-clause-table : goal.returns-in-Err-check-clause-table
returns-in-Err-check-clause-table c t text parsed =
    subst (λ (read : Result GuideTree Refused). Refuses (fault.Guide c.in-Err-check.fault) read)
    (sym (c.in-Ok.ensures.table t text parsed)) c.in-Err-check.ensures.refused
