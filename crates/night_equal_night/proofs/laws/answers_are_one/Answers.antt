use Rattle.night_equal_night.proofs.Answers.{answers}
use Rattle.night_equal_night.proofs.laws.answers_are_one.Goals as goal

pub returns : goal.returns
returns c = answers c.answers_follow.ensures c.checks_are_one.ensures
