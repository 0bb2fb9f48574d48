use Rattle.guide_toml.proofs.ForAbove.{guide_is}
use Rattle.night_command.proofs.SettingUp.{guide_fails}
use Rattle.night_command.proofs.setup.guide_of.Goals as goal

pub returns-in-Ok-clause-guide : goal.returns-in-Ok-clause-guide
returns-in-Ok-clause-guide c =
    guide_is c.args.file.now.bytes c.as_slice.result.now c.in-Ok.guide (cc) c.in-Ok.ensures.table c.in-Ok.ensures.not_toml

pub returns-in-Err-clause-refused : goal.returns-in-Err-clause-refused
returns-in-Err-clause-refused c =
    rw (c.of_guide.ensures)
    (guide_fails c.args.file.now c.path-in-Err.result c.as_slice.result.now c.in-Err.fault (cc) (cc)
    c.in-Err.ensures.table c.in-Err.ensures.not_toml)
