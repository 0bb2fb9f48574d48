use Rattle.night_command.proofs.OneSetup.{never_both}
use Rattle.night_command.proofs.setup.setup_of.Goals as goal

pub returns-in-Err-clause-never_both : goal.returns-in-Err-clause-never_both
returns-in-Err-clause-never_both c = never_both c.args.files.now

pub returns-in-Err-setup_rows_of-clause-never_both : goal.returns-in-Err-setup_rows_of-clause-never_both
returns-in-Err-setup_rows_of-clause-never_both c = never_both c.args.files.now

pub returns-clause-never_both : goal.returns-clause-never_both
returns-clause-never_both c = never_both c.args.files.now
