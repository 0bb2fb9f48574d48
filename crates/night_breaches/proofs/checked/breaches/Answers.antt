use Rattle.std.proofs.Common.{[], List, sym, subst, arith, take}
use Rattle.std.specs.Prelude.{reverse}
use Rattle.hub_ledger.specs.declared.entry.NightEntry.{NightEntry}
use Rattle.night_breaches.specs.Breaches.{breaches_after}
use Rattle.night_breaches.specs.Known.{Knows}
use Rattle.night_breaches.proofs.Broken.{all_broken}
use Rattle.night_breaches.proofs.Nothing.{nothing_broken}
use Rattle.night_breaches.proofs.Steps.{found_all, found_more, older_more}
use Rattle.night_breaches.proofs.checked.breaches.Goals as goal

pub loop-i-preserved : goal.loop-i-preserved
loop-i-preserved c =
    let nights : List NightEntry = c.args.nights.now in
    let older : List NightEntry = reverse (take c.loop-i.i nights) in
    record {
      found = found_more c.args.limit.now nights c.loop-i.i c.index-nights-i.result c.loop-i.known
          (breaches_after c.args.limit.now [] nights) c.loop-i.found.items c.add_breaches.new.found.items (omega (arith))
          c.index-nights-i.is
          c.loop-i.invariant.knows c.loop-i.invariant.found c.in_ok-add_breaches.ensures;
      knows = subst (Knows c.add_night.new.known)
          (sym (older_more nights c.loop-i.i c.index-nights-i.result (omega (arith)) c.index-nights-i.is))
          (c.in_ok-add_night.ensures older c.loop-i.invariant.knows);
    }

pub returns-clause-none : goal.returns-clause-none
returns-clause-none c =
    let nights : List NightEntry = c.args.nights.now in
    nothing_broken c.args.limit.now nights c.loop-i.found.items
    (found_all c.args.limit.now (reverse (take c.loop-i.i nights)) nights c.loop-i.i (breaches_after c.args.limit.now [] nights)
    c.loop-i.found.items (omega (arith)) c.loop-i.invariant.found)

pub returns-clause-each : goal.returns-clause-each
returns-clause-each c =
    let nights : List NightEntry = c.args.nights.now in
    all_broken c.args.limit.now nights c.loop-i.found.items
    (found_all c.args.limit.now (reverse (take c.loop-i.i nights)) nights c.loop-i.i (breaches_after c.args.limit.now [] nights)
    c.loop-i.found.items (omega (arith)) c.loop-i.invariant.found)
