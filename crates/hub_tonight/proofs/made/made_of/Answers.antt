use Rattle.std.proofs.Common.{ap, map, reverse, ◌∙◌}
use Rattle.hub_tonight.specs.Begun.{begun_row}
use Rattle.hub_tonight.proofs.Building.{of_partners}
use Rattle.hub_tonight.proofs.made.made_of.Goals as goal

pub built-requires : goal.built-requires
built-requires c =
    let older = reverse c.args.call.now.nights.now in
    let first = c.as_slice-2.result.now in
    of_partners older first c.in_ok-rows.rows.partners c.in_ok-begun.begun.items
    (c.in_ok-begun.ensures ∙ ap (map (begun_row older first)) c.as_slice.ensures)
