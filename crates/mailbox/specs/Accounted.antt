-- Which sets are delivered to whom, and which are held (own; X12.6, transaction set): none that may be delivered is lost, and none
-- is delivered twice.
use Rattle.std.specs.Prelude.{ℕ, ◌≡◌, ◌≢◌, ◌+◌, ◌<◌, ◌==◌, Bool, true, false, List, [], ◌∷◌, length, All, count_by, if◌then◌else◌}
use Rattle.std.specs.List.{flat_map}
use Rattle.answered_sets.specs.Judged.{JudgedValue, PlacedValue, all_sets}
use Rattle.partner_setup.specs.Setup.{SetupValue, route_of}
use Rattle.partner_setup.specs.Sound.{IsSoundSetup}
use Rattle.x12_segs.specs.Words.{element_of}
use Rattle.mailbox.specs.Deliveries.{delivered_to, is_deliverable, is_delivered_to, outcomes}
use Rattle.mailbox.specs.declared.outcome.Outcome.{Outcome}
use Rattle.mailbox.specs.declared.outcome.Outcome.TheVariants.{DeliveredTo, HeldForDelimiter, HeldForRoute}

-- the receivers of a set, by GS03
abbrev pub receivers_of : SetupValue → PlacedValue → List ℕ
receivers_of setup p = route_of setup (element_of p.group.header 3)

-- what a partner's mailbox has of a set: the set once, or nothing
abbrev pub copies_for : SetupValue → (partner : ℕ) → PlacedValue → List PlacedValue
copies_for setup partner p = if is_delivered_to setup partner p then p ∷ [] else []

-- a line of a held set that names this partner
abbrev pub is_held_for : (partner : ℕ) → Outcome → Bool
is_held_for partner (DeliveredTo to) = false
is_held_for partner (HeldForDelimiter to) = to == partner
is_held_for partner HeldForRoute = false

-- how often a set is in a partner's mailbox or in a held line that names it
abbrev pub told_for : SetupValue → (partner : ℕ) → PlacedValue → ℕ
told_for setup partner p = length (copies_for setup partner p) + count_by (is_held_for partner) (outcomes setup p)

-- of a set that may be delivered: each receiver of its route has it once, in its mailbox or in a held line that names it; nobody else
-- has it; and a held line that names nobody is there exactly where there isn't a route, and is then the only one
pub record IsAccounted (setup : SetupValue) (p : PlacedValue) : Type 0 where
  pub receivers : All (λ q. told_for setup q p ≡ 1) (receivers_of setup p)
  pub others : (q : ℕ) → All (λ to. to ≢ q) (receivers_of setup p) → told_for setup q p ≡ 0
  pub routed : 0 < length (receivers_of setup p) → All (λ outcome. outcome ≢ HeldForRoute) (outcomes setup p)
  pub without_route : receivers_of setup p ≡ [] → outcomes setup p ≡ HeldForRoute ∷ []

-- under a setup, the outcome of all sets
pub record AreAccounted (setup : SetupValue) : Type 0 where
  pub deliverable : (p : PlacedValue) → is_deliverable p ≡ true → IsAccounted setup p
  pub others : (p : PlacedValue) → is_deliverable p ≡ false → outcomes setup p ≡ []
  -- a mailbox has what it has of each set, front to back
  pub mailboxes : (partner : ℕ) (xs : List JudgedValue) → delivered_to setup partner xs
      ≡ flat_map (copies_for setup partner) (all_sets xs)

-- the theorem of deliveries: under a sound setup, as each is that is built
abbrev pub SetsAreAccounted : Type 0
SetsAreAccounted = (setup : SetupValue) → IsSoundSetup setup → AreAccounted setup
