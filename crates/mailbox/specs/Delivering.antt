-- Private. How the lists of delivered sets grow, a set and a receiver at a time.
use Rattle.std.specs.Prelude.{ℕ, ◌≡◌, ◌<◌, ◌&&◌, Bool, not, List, [], ◌∷◌, ◌++◌, Some, length, map, filter, slice_get, if◌then◌else◌}
use Rattle.std.specs.List.{list_any}
use Rattle.env_index.specs.Words.{GroupEntry}
use Rattle.partner_setup.specs.Setup.{SetupValue}
use Rattle.mailbox.specs.declared.outcome.Outcome.{Outcome}
use Rattle.mailbox.specs.declared.outcome.Outcome.TheVariants.{DeliveredTo, HeldForDelimiter, HeldForRoute}
use Rattle.mailbox.specs.Deliveries.{is_delivered_to, is_delivery_to, outcome_at}
use Rattle.answered_sets.specs.Judged.{JudgedValue, PlacedValue, is_fa, is_refused}
use Rattle.answered_sets.specs.declared.standing.GroupStanding.{GroupStanding}

-- after the list of each place these were added
pub record HasGrown (by : ℕ → List PlacedValue) (old new : List (List PlacedValue)) : Type 0 where
  pub count : length new ≡ length old
  pub each : (q : ℕ) (xs : List PlacedValue) → slice_get old q ≡ Some xs → slice_get new q ≡ Some (xs ++ by q)

-- of these sets, those that are delivered to each partner
abbrev pub HasTaken : SetupValue → List PlacedValue → (old new : List (List PlacedValue)) → Type 0
HasTaken setup ps = HasGrown (λ q. filter (is_delivered_to setup q) ps)

-- whether a set is delivered to a partner by these targets of its route
abbrev pub is_sent_by : SetupValue → PlacedValue → (partner : ℕ) → (targets : List ℕ) → Bool
is_sent_by setup p partner targets = list_any (is_delivery_to partner) (map (outcome_at setup p) targets)

-- once, or not at all
abbrev pub one_where : Bool → PlacedValue → List PlacedValue
one_where sent p = if sent then p ∷ [] else []

-- one set, for each partner that it's delivered to by these outcomes
abbrev pub HasSent : PlacedValue → (outcomes : List Outcome) → (old new : List (List PlacedValue)) → Type 0
HasSent p outcomes = HasGrown (λ q. one_where (list_any (is_delivery_to q) outcomes) p)

-- a delivery is to one of this many partners
abbrev pub IsForPlace : (partners : ℕ) → Outcome → Type 0
IsForPlace partners (DeliveredTo to) = to < partners
IsForPlace partners (HeldForDelimiter to) = Unit {0}
IsForPlace partners HeldForRoute = Unit {0}

-- accepted sets of the group may be delivered
abbrev pub is_group_deliverable : JudgedValue → GroupStanding → GroupEntry → Bool
is_group_deliverable x standing group = standing.clear && not (is_fa group) && not (is_refused x)
