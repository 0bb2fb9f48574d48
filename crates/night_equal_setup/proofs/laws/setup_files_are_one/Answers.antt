use Rattle.night_equal_setup.proofs.Setups.{setup_files_are_one}
use Rattle.night_equal_setup.proofs.laws.setup_files_are_one.Goals as goal

pub returns : goal.returns
returns c = setup_files_are_one
