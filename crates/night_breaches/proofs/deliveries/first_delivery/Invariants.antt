use Rattle.std.proofs.Common.{◌≡◌, List, drop}
use Rattle.hub_ledger.specs.declared.entry.NightEntry.{NightEntry}
use Rattle.night_breaches.specs.Deliveries.{AreDeliveries, first_delivery}
use Rattle.night_breaches.proofs.deliveries.first_delivery.Given as goal

abbrev pub invariant-loop-i : goal.invariant-loop-i
invariant-loop-i l =
    (older : List NightEntry) → AreDeliveries older l.found → first_delivery older l.keys ≡ first_delivery older (drop l.i l.keys)
