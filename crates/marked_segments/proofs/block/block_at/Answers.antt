use Rattle.std.proofs.Common.{◌≡◌, ◌-◌, ℕ, Bool, map, length, arith}
use Rattle.std.specs.Simd.Lanes.{mask_l}
use Rattle.memchr.specs.Find.{is_byte}
use Rattle.marked_segments.specs.Marks.{is_odd}
use Rattle.marked_segments.proofs.BlockLemmas.{mask_cut, mask_whole}
use Rattle.marked_segments.proofs.block.block_at.Goals as goal

pub returns-then-left-lt-WIDTH-clause-block : goal.returns-then-left-lt-WIDTH-clause-block
returns-then-left-lt-WIDTH-clause-block c =
    let d = c.args.delims in
    let stretch = c.args.stretch.now in
    let left = length stretch - c.args.at in
    let v = c.bytes_at-bytes.result in
    let cut = λ (test : ℕ → Bool) (mask : ℕ) (is : mask ≡ mask_l (map test v)). mask_cut test c.args.text.now c.args.base
    stretch v c.args.at c.requires.stretch c.bytes_at-bytes.ensures.long c.bytes_at-bytes.ensures.bytes
    left mask c.if-left-lt-WIDTH.true (omega (arith, c.requires.at)) is in
    record {
      ends = cut (is_byte d.terminator) _ c.equal_to-ends.ensures;
      seps = cut (is_byte d.element) _ c.equal_to-seps.ensures;
      odds = cut (is_odd d) _ c.odd_among-odds.ensures;
    }

pub returns-clause-block : goal.returns-clause-block
returns-clause-block c =
    let d = c.args.delims in
    let stretch = c.args.stretch.now in
    let v = c.bytes_at-bytes.result in
    let whole = λ (test : ℕ → Bool) (mask : ℕ) (is : mask ≡ mask_l (map test v)). mask_whole test c.args.text.now c.args.base
    stretch v c.args.at c.requires.stretch c.bytes_at-bytes.ensures.long
    c.bytes_at-bytes.ensures.bytes mask (omega (arith, c.requires.at, c.if-left-lt-WIDTH.false)) is in
    record {
      ends = whole (is_byte d.terminator) _ c.equal_to-ends.ensures;
      seps = whole (is_byte d.element) _ c.equal_to-seps.ensures;
      odds = whole (is_odd d) _ c.odd_among-odds.ensures;
    }
