use Rattle.std.proofs.Common.{rules}
use Rattle.check_command.proofs.Behind.{more_said}
use Rattle.check_command.proofs.further.of_guides.Goals as goal

pub loop-file-preserved : goal.loop-file-preserved
loop-file-preserved c =
    more_said c.args.given.now c.loop-file.file-index c.loop-file.said.items c.push.new.self.items c.file-item.result
    c.in_ok-of_guide.field-0 c.loop-file-test.true c.file-item.is c.loop-file.invariant (search rules) c.in_ok-push.ensures.items
