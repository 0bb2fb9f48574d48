use Rattle.std.proofs.Common.{◌≡◌, ◌+◌, ◌<◌, ◌≤◌, true, false, length, rules, arith}
use Rattle.x12_bytes.specs.HeaderTest.{is_head}
use Rattle.whole_interchanges.specs.Begun.{may_begin}
use Rattle.whole_interchanges.proofs.Seeks.{gap_on, gap_past, gap_to_begun, gap_to_end, gap_to_head}
use Rattle.whole_interchanges.proofs.seeking.seek.Goals as goal

pub returns-then-is_some : goal.returns-then-is_some
returns-then-is_some c =
    let fits : c.loop-ahead.at + c.in-Some.ahead ≤ length c.args.read.now = search rules in
    let head : is_head c.args.read.now (c.loop-ahead.at + c.in-Some.ahead) ≡ true = search rules in
    gap_to_head c.args.read.now c.args.from (c.loop-ahead.at + c.in-Some.ahead)
    (gap_on c.args.read.now c.args.from c.loop-ahead.at c.in-Some.ahead c.loop-ahead.invariant c.in-Some.ensures.0.before fits) head

pub returns-then-may_begin : goal.returns-then-may_begin
returns-then-may_begin c =
    let fits : c.loop-ahead.at + c.in-Some.ahead ≤ length c.args.read.now = search rules in
    let may : may_begin c.args.read.now (c.loop-ahead.at + c.in-Some.ahead) ≡ true = search rules in
    gap_to_begun c.args.read.now c.args.from (c.loop-ahead.at + c.in-Some.ahead)
    (gap_on c.args.read.now c.args.from c.loop-ahead.at c.in-Some.ahead c.loop-ahead.invariant c.in-Some.ensures.0.before fits) may

pub loop-ahead-preserved : goal.loop-ahead-preserved
loop-ahead-preserved c =
    let fits : c.loop-ahead.at + c.in-Some.ahead < length c.args.read.now = search rules in
    let none : is_head c.args.read.now (c.loop-ahead.at + c.in-Some.ahead) ≡ false = search rules in
    let closed : may_begin c.args.read.now (c.loop-ahead.at + c.in-Some.ahead) ≡ false = search rules in
    gap_past c.args.read.now c.args.from (c.loop-ahead.at + c.in-Some.ahead)
    (gap_on c.args.read.now c.args.from c.loop-ahead.at c.in-Some.ahead c.loop-ahead.invariant c.in-Some.ensures.0.before (omega arith))
    fits none closed

pub returns : goal.returns
returns c = gap_to_end c.args.read.now c.args.from c.loop-ahead.at c.loop-ahead.invariant c.in_default.ensures
