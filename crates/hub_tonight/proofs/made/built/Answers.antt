use Rattle.std.proofs.Common.{ap, length, map, ◌∙◌}
use Rattle.partner_setup.specs.CountersText.{counters_text}
use Rattle.partner_setup.specs.declared.rows.CounterRow.{CounterRow}
use Rattle.hub_tonight.proofs.Building.{built_is, numbers_fit}
use Rattle.hub_tonight.proofs.made.built.Goals as goal

pub counters_text-requires : goal.counters_text-requires
counters_text-requires c =
    ap length c.as_slice-2.ensures.value
    ∙ numbers_fit c.args.rows c.args.begun.items c.args.guides.items c.in_ok-setup.setup c.in_ok-numbers.numbers.items
    c.in_ok-setup.ensures.setup c.requires
    (c.in_ok-numbers.ensures ∙ ap (map (λ (r : CounterRow). r.counters)) c.as_slice.ensures.value)

pub returns-clause-made : goal.returns-clause-made
returns-clause-made c =
    built_is c.counters_go_on.ensures c.args.rows c.args.begun.items c.args.guides.items c.in_ok-setup.setup c.in_ok-numbers.numbers.items
    c.in_ok-counters.counters c.in_ok-setup.ensures.setup c.requires
    (c.in_ok-numbers.ensures ∙ ap (map (λ (r : CounterRow). r.counters)) c.as_slice.ensures.value)
    (c.in_ok-counters.ensures ∙ ap (counters_text c.in_ok-setup.setup) c.as_slice-2.ensures.value)
