use Rattle.std.proofs.Common.{◌≡◌, ◌-◌, ◌<◌, length, min, arith, rules}
use Rattle.whole_interchanges.proofs.Passes.{passed}
use Rattle.whole_interchanges.proofs.passing.pass_over.Goals as goal

pub returns-in-Some-clause-goes_on : goal.returns-in-Some-clause-goes_on
returns-in-Some-clause-goes_on c =
    let free : c.min-free.result ≡ min c.args.searched.header.to c.args.searched.trailer.to = search rules in
    let room : c.saturating_sub.result ≡ length c.args.read.now - 2 = search rules in
    let to : c.min-to.result ≡ min c.min-free.result c.saturating_sub.result = search rules in
    let lt : c.args.from < c.min-to.result = omega (arith, c.if-to-from.false) in
    passed c.args.read.now c.args.delims c.args.searched c.args.from c.min-to.result c.in-Some.ahead c.requires.searched
    c.requires.header c.requires.trailer lt (omega (arith, free, to)) (omega (arith, free, to)) (omega (arith, room, to, lt))
    c.in-Some.ensures.0.high c.in-Some.ensures.1
