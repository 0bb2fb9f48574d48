use Rattle.std.proofs.Common.{◌≡◌, ◌+◌, arith, ap, length, slice_range}
use Rattle.marked_segments.proofs.MaskLemmas.{mask_of_none}
use Rattle.marked_segments.proofs.PartLemmas.{length-part, views_of_span}
use Rattle.marked_segments.proofs.segments.MarkedSegments.of_span.Goals as goal

pub returns : goal.returns
returns c = views_of_span c.args.text.now c.args.set.now c.requires.order c.requires.within

pub invariant_of-result : goal.invariant_of-result
invariant_of-result c =
    let text = c.args.text.now in
    let start = c.args.set.now.start in
    let end = c.args.set.now.end in
    let stretch = slice_range text start end in
    let sum : end ≡ start + length (slice_range text start end) =
    omega (arith, length-part text start end c.requires.order c.requires.within, c.requires.order) in
    let long = length-part text start end c.requires.order c.requires.within in (
      record {
        block = record {
          ends = mask_of_none _ stretch 0 (omega arith);
          seps = mask_of_none _ stretch 0 (omega arith);
          odds = mask_of_none _ stretch 0 (omega arith);
        };
        room = omega arith;
      },
      record {
        within = omega (arith, long, c.requires.order, c.requires.within);
        sized = omega (arith, long, c.requires.order);
        bytes = ap (slice_range text start) sum;
      },
    )
