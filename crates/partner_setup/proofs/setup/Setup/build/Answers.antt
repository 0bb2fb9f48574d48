use Rattle.std.proofs.Common.{List, sym, ap, ◌∙◌}
use Rattle.guide_tree.specs.declared.rows.GuideRows.{GuideRows}
use Rattle.partner_setup.specs.SetupFaults.{first_fault}
use Rattle.partner_setup.specs.declared.rows.CounterRow.{CounterRow}
use Rattle.partner_setup.proofs.setup.Setup.build.Goals as goal

pub made-requires : goal.made-requires
made-requires c =
    let guides : List GuideRows = c.args.guides.items in
    ap (λ (cs : List CounterRow). first_fault c.args.rows cs guides) (c.as_slice-3.ensures ∙ sym c.as_slice.ensures)
    ∙ ap (λ (gs : List GuideRows). first_fault c.args.rows c.as_slice.result.now gs) (sym c.as_slice-2.ensures.value)
    ∙ sym c.in_ok-fault.ensures ∙ c.in_default.is
