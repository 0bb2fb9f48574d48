use Rattle.std.proofs.Common.{◌+◌, ◌<◌, ◌≤◌, ◌-◌, subst, sym, arith, bit_and}
use Rattle.std.proofs.lemmas.Nat.{one_shl}
use Rattle.memchr.specs.Find.{is_byte}
use Rattle.marked_segments.specs.Marks.{is_odd}
use lib.Count.{count_trailing_zeros}
use Rattle.marked_segments.specs.Blocks.{IsMask}
use Rattle.marked_segments.proofs.MaskLemmas.{first_of_mask, mask_front, none_in_mask}
use Rattle.marked_segments.proofs.block.front_of.Goals as goal

pub returns-then-block-eq0-clause-unended : goal.returns-then-block-eq0-clause-unended
returns-then-block-eq0-clause-unended c =
    let b = c.args.block in
    none_in_mask _ c.args.stretch.now b.at b.end b.ends c.requires.ends c.if-block-eq0.true

pub returns-clause-separators : goal.returns-clause-separators
returns-clause-separators c =
    let b = c.args.block in
    let k = count_trailing_zeros 64 b.ends in
    let found = (first_of_mask _ c.args.stretch.now b.at b.end b.ends c.requires.ends c.if-block-eq0.false).0 in
    let order : b.at ≤ b.end = c.requires.ends.order in
    let short : k < 64 = omega (arith, c.requires.ends.short, found.high) in
    subst (λ n. IsMask (is_byte c.args.delims.element) c.args.stretch.now b.at (b.at + k) (bit_and b.seps (n - 1)))
    (sym (one_shl k 64 short)) (mask_front _ c.args.stretch.now b.at b.end b.seps k c.requires.seps (omega (arith, found.high)))

pub returns-clause-odd : goal.returns-clause-odd
returns-clause-odd c =
    let b = c.args.block in
    let k = count_trailing_zeros 64 b.ends in
    let found = (first_of_mask _ c.args.stretch.now b.at b.end b.ends c.requires.ends c.if-block-eq0.false).0 in
    let order : b.at ≤ b.end = c.requires.ends.order in
    let short : k < 64 = omega (arith, c.requires.ends.short, found.high) in
    subst (λ n. IsMask (is_odd c.args.delims) c.args.stretch.now b.at (b.at + k) (bit_and b.odds (n - 1))) (sym (one_shl k 64 short))
    (mask_front _ c.args.stretch.now b.at b.end b.odds k c.requires.odds (omega (arith, found.high)))

pub returns-clause-unended : goal.returns-clause-unended
returns-clause-unended c =
    let b = c.args.block in
    (first_of_mask _ c.args.stretch.now b.at b.end b.ends c.requires.ends c.if-block-eq0.false).0.before

pub returns-clause-inside : goal.returns-clause-inside
returns-clause-inside c some =
    let b = c.args.block in
    (first_of_mask _ c.args.stretch.now b.at b.end b.ends c.requires.ends c.if-block-eq0.false).0.high

pub returns-clause-ended : goal.returns-clause-ended
returns-clause-ended c some =
    let b = c.args.block in
    (first_of_mask _ c.args.stretch.now b.at b.end b.ends c.requires.ends c.if-block-eq0.false).1
