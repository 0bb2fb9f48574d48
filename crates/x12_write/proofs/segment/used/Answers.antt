use Rattle.std.proofs.Common.{◌≡◌, ◌-◌, ◌<◌, ℕ, length, get_or, sym, ◌∙◌, arith, Bor, List, []}
use Rattle.std.proofs.lemmas.Bool.{eqb-true}
use Rattle.std.proofs.lemmas.Grind.{common_steps}
use Rattle.x12_write.proofs.Trimming.{trimmed-take_empty, trimmed-take_full}
use Rattle.x12_write.proofs.segment.used.Goals as goal

pub loop-end-preserved : goal.loop-end-preserved
loop-end-preserved c =
    let d : Bor (List ℕ) = record { ref_ptr = (0, 0); now = [] } in
    let empty : length (get_or c.args.elements.now (c.loop-end.end - 1) d).now ≡ 0 = eqb-true _ 0 (sym c.if-is_empty.ensures) in
    record {
      within = omega arith;
      same = c.loop-end.invariant.same
          ∙ trimmed-take_empty c.args.elements.now c.loop-end.end d (omega arith) c.loop-end.invariant.within empty;
    }

pub returns-else-is_empty-clause-value : goal.returns-else-is_empty-clause-value
returns-else-is_empty-clause-value c =
    let d : Bor (List ℕ) = record { ref_ptr = (0, 0); now = [] } in
    let te = c.if-is_empty.ensures in
    let full : 0 < length (get_or c.args.elements.now (c.loop-end.end - 1) d).now = grind (arith, common_steps) in
    sym (c.loop-end.invariant.same ∙ trimmed-take_full c.args.elements.now c.loop-end.end d (omega arith) c.loop-end.invariant.within full)
