use Rattle.std.proofs.Common.{◌++◌, ◌∙◌, List, ℕ, ap, arith, map, sym}
use Rattle.hub_ledger.specs.declared.entry.NightEntry.{NightEntry}
use Rattle.night_entries.specs.Again.{key_of}
use Rattle.archived_nights.proofs.Delivering.{delivered_more}
use Rattle.archived_nights.proofs.archive.sets_of.Goals as goal

pub loop-i-preserved : goal.loop-i-preserved
loop-i-preserved c =
    delivered_more c.args.nights.now c.loop-i.i c.index-nights-i.result c.loop-i.sets.items c.push_sets.new.sets.items (omega (arith))
    c.index-nights-i.is
    (c.in_ok-push_sets.ensures ∙ ap (λ (ks : List (List ℕ)). map key_of c.loop-i.sets.items ++ ks) c.as_slice.ensures
    ∙ ap (λ (n : NightEntry). map key_of c.loop-i.sets.items ++ n.delivered) (sym c.index-nights-i.is))
    c.loop-i.invariant
