use Rattle.std.proofs.Common.{◌<◌, List, arith, get_or, length}
use Rattle.hub_kinds.specs.declared.fault.Fault.{Fault}
use Rattle.hub_kinds.specs.Rows.{no_fault}
use Rattle.std.proofs.lemmas.List.{get_or_default}
use Rattle.ack_999.specs.Faults.{notes}
use Rattle.ack_999.proofs.Telling.{counted_more}
use Rattle.ack_999.proofs.faults.fault_segment_count.Goals as goal

pub loop-i-preserved : goal.loop-i-preserved
loop-i-preserved c =
    let faults : List Fault = c.args.faults.now in
    let f : Fault = get_or faults c.loop-i.i no_fault in
    let within : c.loop-i.i < length faults = omega (arith, c.loop-i-test.true, c.len-i-end.ensures) in
    record {
      counted = counted_more c.loop-i.before c.position_of_element-before.result faults c.loop-i.i f c.loop-i.count
          c.note_count-count.result
          (length (notes faults)) within (get_or_default faults c.loop-i.i no_fault f within)
          (c.position_of_element-before.ensures f (c.head-head.ensures no_fault))
          (c.note_count-count.ensures.value f (c.head-head.ensures no_fault)) c.loop-i.invariant.counted;
      few = omega (arith, c.loop-i.invariant.few, c.note_count-count.ensures.bound);
    }
