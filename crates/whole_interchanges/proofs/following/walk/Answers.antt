use Rattle.std.proofs.Common.{◌≡◌, ◌∙◌, Some, rules}
use Rattle.whole_interchanges.specs.Batches.{end_from}
use Rattle.whole_interchanges.proofs.Looks.{goes_now}
use Rattle.whole_interchanges.proofs.following.walk.Goals as goal

pub returns-in-End : goal.returns-in-End
returns-in-End c =
    let end : end_from c.args.read.now c.args.delims c.loop-next.part.at ≡ Some c.in-End.end = search rules in (
      goes_now c.args.read.now c.args.delims c.args.part.at c.loop-next.part.at c.loop-next.invariant.goes_on ∙ end,
      c.loop-next.invariant.searched,
    )
