use Rattle.night_command.proofs.Refusing.{more_guides, no_more_guides}
use Rattle.night_command.proofs.setup.guides_of.Goals as goal

pub returns-in-Err-clause-refused : goal.returns-in-Err-clause-refused
returns-in-Err-clause-refused c =
    no_more_guides c.args.files.now c.loop-file.file-index c.loop-file.guides.items c.file-item.result c.in-Err.failure
    c.loop-file-test.true c.file-item.is c.loop-file.invariant c.in-Err.ensures.refused

pub loop-file-preserved : goal.loop-file-preserved
loop-file-preserved c =
    more_guides c.args.files.now c.loop-file.file-index c.loop-file.guides.items c.push.new.self.items c.file-item.result c.in-Ok.guide
    c.loop-file-test.true c.file-item.is c.loop-file.invariant c.in-Ok.ensures.guide c.in_ok-push-in-Ok.ensures.items
