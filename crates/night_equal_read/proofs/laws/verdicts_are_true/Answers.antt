use Rattle.night_equal_read.proofs.Verdicts.{verdicts}
use Rattle.night_equal_read.proofs.laws.verdicts_are_true.Goals as goal

pub returns : goal.returns
returns c =
    verdicts (record {
      guides = c.guides_are_one.ensures;
      numbers = c.set_numbers_are_one.ensures;
      meetings = c.meetings_are_one.ensures;
    }) c.interchanges_are_kept.ensures c.nights_are_settled.ensures c.sets_are_parts.ensures c.answers_follow.ensures
    c.checks_are_one.ensures
