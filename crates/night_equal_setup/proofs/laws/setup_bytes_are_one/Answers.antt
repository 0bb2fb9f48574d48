use Rattle.night_equal_setup.proofs.Setups.{setup_bytes_are_one}
use Rattle.night_equal_setup.proofs.laws.setup_bytes_are_one.Goals as goal

pub returns : goal.returns
returns c = setup_bytes_are_one
