use Rattle.std.proofs.Common.{refl, subst}
use Rattle.guide_tree.specs.declared.rows.GuideRows.{GuideRows}
use Rattle.check_command.specs.Judgements.{IsGuideJudged}
use Rattle.check_command.specs.declared.judged.Judged.{Judged}
use Rattle.check_command.proofs.judge.tell_guide.Goals as goal

pub returns-in_ok-warnings-in-Taken-clause-line : goal.returns-in_ok-warnings-in-Taken-clause-line
returns-in_ok-warnings-in-Taken-clause-line c = (
  refl,
  (
    c.in-Taken.guide,
    subst (λ (j : Judged GuideRows). IsGuideJudged c.args.given.now.bytes j) c.in-Taken.is c.in_ok-guide.ensures,
    c.size_of.ensures,
    refl,
    c.in_ok-warnings-in-Taken.ensures,
  ),
)
