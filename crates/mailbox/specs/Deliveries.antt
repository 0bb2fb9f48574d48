-- Which sets are delivered to whom, and which are held, and why (own; X12.6, transaction set).
use Rattle.std.specs.Prelude.{ℕ, ◌≡◌, ◌<◌, ◌-◌, slice_get, ◌==◌, Bool, true, false, not, ◌&&◌, ◌||◌, List, [], ◌∷◌, Option, Some, None}
use Rattle.std.specs.Prelude.{map, filter, take, drop, is_some, length, if◌then◌else◌}
use Rattle.std.specs.List.{list_any, remove}
use Rattle.x12_bytes.specs.declared.delims.Delims.{Delims}
use Rattle.x12_segs.specs.Words.{SegValue, id_of, element_of, elements_of}
use Rattle.x12_write.specs.Delimiters.{is_delimiter}
use Rattle.hub_kinds.specs.declared.set_codes.Verdict.{Verdict}
use Rattle.hub_kinds.specs.declared.set_codes.Verdict.TheVariants as verdict
use Rattle.partner_setup.specs.declared.partner.Partner.{Partner}
use Rattle.partner_setup.specs.Setup.{SetupValue, route_of}
use Rattle.mailbox.specs.declared.outcome.Outcome.{Outcome}
use Rattle.mailbox.specs.declared.outcome.Outcome.TheVariants.{DeliveredTo, HeldForDelimiter, HeldForRoute}
use Rattle.answered_sets.specs.Judged.{PlacedValue, JudgedValue, all_sets, delims_in, is_fa, is_refused, segments_in, verdict_by_standing}

-- A or E
abbrev pub is_not_rejected : Verdict → Bool
is_not_rejected verdict.Accepted = true
is_not_rejected verdict.AcceptedWithErrors = true
is_not_rejected verdict.Rejected = false

-- verdict A or E; in a group without a code that isn't FA; in an interchange that isn't refused
abbrev pub is_deliverable : PlacedValue → Bool
is_deliverable p =
    is_not_rejected (verdict_by_standing p) && p.standing.clear && not (is_fa p.group) && not (is_refused p.interchange)

-- a byte that isn't a delimiter where it comes from, and one where it goes to
abbrev pub collides : Delims → Delims → ℕ → Bool
collides from to b = not (is_delimiter from b) && is_delimiter to b

-- such a byte in a text
abbrev pub has_collision : Delims → Delims → List ℕ → Bool
has_collision from to text = list_any (collides from to) text

-- what is kept of ST: its id, and its elements but ST02
abbrev pub kept_parts : SegValue → List (List ℕ)
kept_parts header = id_of header ∷ remove (drop 1 (elements_of header)) 1

-- how many segments are between ST and SE
abbrev pub inner_count : PlacedValue → ℕ
inner_count p = if is_some p.set.trailer then p.set.segments - 2 else p.set.segments - 1

-- the segments between ST and SE
abbrev pub inner_in : PlacedValue → List SegValue
inner_in p = take (inner_count p) (drop 1 (segments_in p))

-- in what is kept of a set, its SE left aside, there is such a byte
abbrev pub is_blocked : (to : Delims) → PlacedValue → Bool
is_blocked to p =
    list_any (has_collision (delims_in p) to) (kept_parts p.set.header)
    || list_any (λ seg. has_collision (delims_in p) to seg.bytes) (inner_in p)

-- the outcome of a set that may be delivered, for a receiver of its route; a set whose receiver isn't there has none
abbrev pub outcome_by : Option Partner → PlacedValue → ℕ → Outcome
outcome_by None p to = HeldForRoute
outcome_by (Some partner) p to = if is_blocked partner.delims p then HeldForDelimiter to else DeliveredTo to

abbrev pub outcome_at : SetupValue → PlacedValue → ℕ → Outcome
outcome_at setup p to = outcome_by (slice_get setup.partners to) p to

abbrev pub outcomes_on : SetupValue → PlacedValue → List ℕ → List Outcome
outcomes_on setup p [] = HeldForRoute ∷ []
outcomes_on setup p (to ∷ more) = map (outcome_at setup p) (to ∷ more)

-- the outcome of a set, for each receiver of its route (GS03): nothing of one that may not be delivered
abbrev pub outcomes : SetupValue → PlacedValue → List Outcome
outcomes setup p = if is_deliverable p then outcomes_on setup p (route_of setup (element_of p.group.header 3)) else []

-- those of sets, one after the other
abbrev pub outcomes_of : SetupValue → List PlacedValue → List (List Outcome)
outcomes_of setup ps = map (outcomes setup) ps

abbrev pub is_delivery_to : ℕ → Outcome → Bool
is_delivery_to partner (DeliveredTo to) = to == partner
is_delivery_to partner (HeldForDelimiter to) = false
is_delivery_to partner HeldForRoute = false

abbrev pub is_held : Outcome → Bool
is_held (DeliveredTo to) = false
is_held (HeldForDelimiter to) = true
is_held HeldForRoute = true

abbrev pub is_delivered_to : SetupValue → (partner : ℕ) → PlacedValue → Bool
is_delivered_to setup partner p = list_any (is_delivery_to partner) (outcomes setup p)

-- the sets that are delivered to a partner: all sets, front to back, filtered
abbrev pub delivered_to : SetupValue → (partner : ℕ) → List JudgedValue → List PlacedValue
delivered_to setup partner xs = filter (is_delivered_to setup partner) (all_sets xs)

-- for each partner of a setup, by its place, the sets that are delivered to it
pub record AreDelivered (setup : SetupValue) (xs : List JudgedValue) (lists : List (List PlacedValue)) : Type 0 where
  pub count : length lists ≡ length setup.partners
  pub each : (partner : ℕ) → partner < length setup.partners → slice_get lists partner ≡ Some (delivered_to setup partner xs)
