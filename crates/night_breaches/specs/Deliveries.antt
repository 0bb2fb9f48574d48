-- Sets that older nights delivered (own). The older nights are newest first.
use Rattle.std.specs.Prelude.{◌≡◌, ℕ, List, [], ◌∷◌, Option, Some, None}
use Rattle.hub_ledger.specs.declared.entry.NightEntry.{NightEntry}
use Rattle.night_breaches.specs.declared.deliveries.Deliveries.{Deliveries}
use Rattle.night_breaches.specs.declared.deliveries.Delivery.{Delivery}
use Rattle.night_breaches.specs.Breaches.{night_with}
use Rattle.night_breaches.specs.Known.{night_in}

-- the newest night that delivered each set is known
abbrev pub AreDeliveries : (older : List NightEntry) → Deliveries → Type 0
AreDeliveries older found = (key : List ℕ) → night_in found.nights key ≡ night_with key older

-- a set, by the newest night that delivered it; otherwise another one
abbrev pub delivery_or : (key : List ℕ) → (night : Option (List ℕ)) → (other : Option Delivery) → Option Delivery
delivery_or key None other = other
delivery_or key (Some night) other = Some (record { key = key; night = night })

-- the first of these sets that an older night delivered
abbrev pub first_delivery : (older : List NightEntry) → (keys : List (List ℕ)) → Option Delivery
first_delivery older [] = None
first_delivery older (key ∷ keys) = delivery_or key (night_with key older) (first_delivery older keys)
