use Rattle.std.proofs.Common.{refl, ◌+◌}
use Rattle.guide_tree.specs.Words.{guide_of}
use Rattle.set_walk.proofs.Taking.{strayed}
use Rattle.set_walk.proofs.seen.pass_stray.Goals as goal

pub returns : goal.returns
returns c =
    strayed (guide_of c.args.fast.now) c.args.seen.now c.args.seg.now c.stray.new.self (c.args.seen.now.walk.count + 1) c.requires.stray
    c.requires.room refl c.in_ok-stray.ensures
