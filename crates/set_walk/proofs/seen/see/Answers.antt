use Rattle.std.proofs.Common.{◌≡◌, None, rules}
use Rattle.guide_tree.specs.Words.{guide_of}
use Rattle.set_walk.proofs.Seeing.{seen_more, seen_trailer, none_by}
use Rattle.set_walk.proofs.seen.see.Goals as goal

pub returns-then-is_trailer-clause-seen : goal.returns-then-is_trailer-clause-seen
returns-then-is_trailer-clause-seen c done seen =
    let none : c.args.seen.now.trailer ≡ None = none_by c.args.seen.now.trailer (search rules) in
    seen_trailer (guide_of c.args.fast.now) c.args.seen.now c.args.seg done none (search rules) seen

pub returns-clause-seen : goal.returns-clause-seen
returns-clause-seen c done seen =
    let none : c.args.seen.now.trailer ≡ None = none_by c.args.seen.now.trailer (search rules) in
    seen_more (guide_of c.args.fast.now) c.args.seen.now c.take.new.seen c.args.seg done none (search rules) (search rules)
    c.in_ok-take.ensures seen
