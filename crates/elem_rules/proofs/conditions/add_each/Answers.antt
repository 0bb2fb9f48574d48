use Rattle.std.proofs.Common.{◌+◌, List, [], ap, sym, ◌∙◌, append-nil}
use Rattle.std.specs.Prelude.{Bool, if◌then◌else◌}
use Rattle.hub_kinds.specs.declared.fault.ElemFault.{ElemFault}
use Rattle.elem_rules.specs.Clean.{is_set}
use Rattle.elem_rules.specs.Found.{read, broken_found}
use Rattle.elem_rules.proofs.Steps.{up_to_more}
use Rattle.elem_rules.proofs.conditions.add_each.Goals as goal
use Rattle.elem_rules.proofs.conditions.add_each.Goals.{then-is_set+in_ok-add_broken, else-is_set}

pub loop-k-preserved : goal.loop-k-preserved
loop-k-preserved c =
    let rows = c.args.of.now.rows.now in
    let texts = read c.args.of.now.texts.now in
    let k = c.loop-k.k in
    let one : List ElemFault = broken_found rows texts c.args.code (k + 1) in
    elim c.if-is_set.branch [
      | then-is_set+in_ok-add_broken w ↦
          up_to_more (λ k. if is_set c.args.bits k then broken_found rows texts c.args.code k else []) k c.args.found.now c.loop-k.found
          c.if-is_set.found one
          c.loop-k.invariant (w.found-is ∙ w.in_ok-add_broken.ensures)
          (ap (λ (b : Bool). if b then one else []) (sym (sym c.is_set.ensures ∙ w.if-is_set.true)))
      | else-is_set w ↦
          up_to_more (λ k. if is_set c.args.bits k then broken_found rows texts c.args.code k else []) k c.args.found.now c.loop-k.found
          c.if-is_set.found []
          c.loop-k.invariant (w.found-is ∙ sym (append-nil c.loop-k.found))
          (ap (λ (b : Bool). if b then one else []) (sym (sym c.is_set.ensures ∙ w.if-is_set.false)))
    ]
