use Rattle.std.proofs.Common.{ap, arith, sym, ◌∙◌}
use Rattle.hub_ledger.specs.declared.entry.NightEntry.{NightEntry}
use Rattle.hub_tonight.proofs.Mapping.{nights_more}
use Rattle.hub_tonight.proofs.begun.left_numbers.Goals as goal

pub loop-i-preserved : goal.loop-i-preserved
loop-i-preserved c =
    nights_more c.args.nights.now c.loop-i.i c.index-nights-i.result c.as_slice.result.now c.loop-i.map c.add_numbers.new.map
    (omega (arith)) c.index-nights-i.is
    (c.as_slice.ensures ∙ ap (λ (n : NightEntry). n.addresses) (sym c.index-nights-i.is)) c.in_ok-add_numbers.ensures c.loop-i.invariant
