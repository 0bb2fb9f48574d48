use Rattle.std.proofs.Common.{◌<◌, ◌++◌, ◌∙◌, List, ℕ, ap, append_assoc, arith, length}
use Rattle.hub_kinds.specs.declared.fault.Fault.{Fault}
use Rattle.ack_999.proofs.Telling.{all_told, told_more}
use Rattle.ack_999.proofs.faults.append_faults.Goals as goal

pub loop-i-preserved : goal.loop-i-preserved
loop-i-preserved c =
    let faults : List Fault = c.args.faults.now in
    let within : c.loop-i.i < length faults = omega (arith, c.loop-i-test.true, c.len-i-end.ensures) in
    record {
      told = told_more c.args.delims.now c.loop-i.before c.element_position-before.result faults c.loop-i.i c.at-fault.result
          c.loop-i.out.items c.append_notes.new.out.items _ within (c.at-fault.ensures c.at-fault.result) c.element_position-before.ensures
          c.in_ok-append_notes.ensures.text c.loop-i.invariant.told;
      kept = record {
        rest = c.loop-i.invariant.kept.rest ++ c.append_notes.ensures.kept.rest;
        is = c.append_notes.ensures.kept.is ∙ ap (λ (l : List ℕ). l ++ c.append_notes.ensures.kept.rest) c.loop-i.invariant.kept.is
            ∙ append_assoc c.args.out.now.items c.loop-i.invariant.kept.rest c.append_notes.ensures.kept.rest;
      };
    }

pub returns-clause-text : goal.returns-clause-text
returns-clause-text c =
    all_told c.args.delims.now c.loop-i.before c.args.faults.now c.loop-i.i c.args.out.now.items c.loop-i.out.items
    (omega (arith, c.loop-i-test.false, c.len-i-end.ensures)) c.loop-i.invariant.told
