use Rattle.std.proofs.Common.{◌≡◌, ◌-◌, suc, arith}
use Rattle.mailbox.specs.Read.{text_as_read}
use Rattle.mailbox.proofs.Writing.{one_counted, one_written, still_kept}
use Rattle.mailbox.proofs.inner.append_each_as_read.Goals as goal

pub loop-count-preserved : goal.loop-count-preserved
loop-count-preserved c =
    let step : c.loop-count.count ≡ suc (c.loop-count.count - 1) = omega arith in
    record {
      text = one_written (text_as_read c.args.from.now) c.loop-count.count (c.loop-count.count - 1) c.loop-count.left
          c.next.new.self c.in-Some.seg c.loop-count.out.items c.append_one_as_read.new.out.items _ step c.in-Some.ensures.steps
          c.in_ok-append_one_as_read-in-Some.ensures.text c.loop-count.invariant.text;
      kept = still_kept c.loop-count.invariant.kept c.in_ok-append_one_as_read-in-Some.ensures.kept;
      count = one_counted c.loop-count.count (c.loop-count.count - 1) c.loop-count.written _ c.loop-count.left c.next.new.self c.in-Some.seg
          step c.in-Some.ensures.steps c.loop-count.invariant.count;
      bound = omega arith;
    }
