use Rattle.night_equal_night.proofs.Checks.{checks}
use Rattle.night_equal_night.proofs.laws.checks_are_one.Goals as goal

pub returns : goal.returns
returns c = checks c.faults_are_one.ensures c.set_codes_are_one.ensures c.verdicts_are_one.ensures
