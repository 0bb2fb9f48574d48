-- What holds of every hub, whatever stops it and whenever, and of nights that continue (own).
use Rattle.std.specs.Prelude.{◌≡◌, ◌↔◌, [], Contains, List}
use Rattle.std.specs.List.{AllByRecursion}
use Rattle.hub_ledger.specs.declared.entry.NightEntry.{NightEntry}
use Rattle.hub_ledger.specs.Entries.{AreApart, AreNew, GoOn}
use Rattle.hub_ledger.specs.Events.{Event, Happens, Hub, entries_of, new_hub}
use Rattle.hub_ledger.specs.Nights.{AreConsecutive, IsCounted, Night}

-- no set is delivered to a receiver on two nights, but one that the later night was asked for again
abbrev pub DeliversOnce : Type 0
DeliversOnce = (events : List Event) (hub : Hub) → Happens new_hub events hub → AreApart (entries_of hub.committed)

-- if no night was asked for a set again, no set is delivered to a receiver on two nights
abbrev pub DeliversNew : Type 0
DeliversNew = (nights : List NightEntry) → AllByRecursion (λ (night : NightEntry). night.again ≡ []) nights
    → AreApart nights ↔ AreNew nights

-- what may be sent is written down
abbrev pub ShowsCommitted : Type 0
ShowsCommitted = (events : List Event) (hub : Hub) → Happens new_hub events hub → (night : Night)
    → Contains hub.shown night → Contains hub.committed night

-- what an address is sent has numbers that go up by one from a first, over all nights: so none twice before they have gone round
abbrev pub NumbersGoOn : Type 0
NumbersGoOn = (events : List Event) (hub : Hub) → Happens new_hub events hub → AreConsecutive hub.committed

pub record IsGoingOn (nights : List Night) : Type 0 where
  pub apart : AreApart (entries_of nights)
  pub numbers : AreConsecutive nights

-- nights of which each continues from those before it, and numbers what it sends without a gap
abbrev pub GoingOnDeliversOnce : Type 0
GoingOnDeliversOnce = (nights : List Night) → GoOn (entries_of nights) → AllByRecursion IsCounted nights → IsGoingOn nights
