use Rattle.std.proofs.Common.{List, [], ◌∷◌, length, ap, sym, subst, arith, ◌∙◌}
use Rattle.std.proofs.lemmas.List.{length-append}
use Rattle.elem_rules.specs.declared.flat_row.FlatRow.{FlatRow}
use Rattle.elem_rules.specs.Flat.{ArePairs}
use Rattle.elem_rules.proofs.FlatSlots.{IsStable, rows_more, rows_now}
use Rattle.elem_rules.proofs.flat_slot.flat_rows_of.Goals as goal

pub loop-k-preserved : goal.loop-k-preserved
loop-k-preserved c =
    let old = c.loop-k.flat.items in
    let more = c.flat_element_of.new.numbers.items in record {
      many = ap length c.in_ok-push.ensures.items
          ∙ (let e = length-append old (c.in_ok-row.row ∷ []) in omega (arith, e, c.loop-k.invariant.many));
      each = subst (λ (l : List FlatRow). ArePairs (IsStable more) l c.args.rows.now) (sym c.in_ok-push.ensures.items)
          (rows_more old c.args.rows.now c.in_ok-row.row c.index-rows-k.result c.loop-k.k c.loop-k.numbers.items more
          c.loop-k.invariant.many c.loop-k-test.true c.index-rows-k.is c.in_ok-row.ensures.grown c.in_ok-row.ensures.flat
          c.loop-k.invariant.each);
    }

pub returns-clause-each : goal.returns-clause-each
returns-clause-each c = rows_now c.loop-k.flat.items c.args.rows.now c.loop-k.numbers.items c.loop-k.invariant.each
