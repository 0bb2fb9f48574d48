-- Which sets are delivered to whom, and a mailbox, by the definition and by the layers.
use Rattle.std.specs.Prelude.{◌≡◌, ℕ, Bool, true, false, not, List, [], ◌∷◌, ◌++◌, map, filter, flat_map, length, codes}
use Rattle.std.specs.List.{AllZip, list_any}
use Rattle.x12_bytes.specs.declared.delims.Delims.{Delims}
use Rattle.x12_segs.specs.Words.{elements_of, id_of}
use Rattle.x12_write.specs.Delimiters.{is_delimiter}
use Rattle.guide_tree.specs.Tree.{GuideTree}
use Rattle.partner_setup.specs.declared.partner.Partner.{Partner}
use Rattle.partner_setup.specs.Setup.{SetupValue}
use Rattle.answered_sets.specs.Judged.{JudgedValue, PlacedValue, all_sets, delims_in, is_fa, is_refused, verdict_by_standing}
use Rattle.mailbox.specs.declared.outcome.Outcome as layer
use Rattle.mailbox.specs.declared.outcome.Outcome.TheVariants.{DeliveredTo, HeldForDelimiter, HeldForRoute}
use Rattle.mailbox.specs.Deliveries as old
use Rattle.mailbox.specs.Mailbox as old_box
use Rattle.mailbox.specs.Numbered.{sender_in}
use Rattle.night_definition.specs.Segments.{Segment}
use Rattle.night_definition.specs.Setup.{Setup}
use Rattle.night_definition.specs.Answers.{Answer, AnsweredGroup, Answered}
use Rattle.night_definition.specs.Deliveries as room
use Rattle.night_definition.specs.Deliveries.{Sent, delivered, held_for_delimiter, held_for_route, sent}
use Rattle.night_definition.specs.Night as room_night

abbrev pub room_setup : SetupValue → List GuideTree → Setup
room_setup setup guides = record { hub = setup.hub; partners = setup.partners; routes = setup.routes; guides = guides }

abbrev pub now : room.Outcome → layer.Outcome
now (delivered to) = DeliveredTo to
now (held_for_delimiter to) = HeldForDelimiter to
now held_for_route = HeldForRoute

-- a set with its envelopes, as the layers and the definition have it
pub record IsSeen (p : PlacedValue) (s : Sent) : Type 0 where
  pub delims : s.delims ≡ delims_in p
  pub sender : s.sender ≡ sender_in p
  pub gs : s.gs ≡ elements_of p.group.header
  pub st : s.answer.set.header.elements ≡ elements_of p.set.header
  pub inner : map (λ (x : Segment). x.elements) s.answer.set.inner ≡ map elements_of (old.inner_in p)

-- with its group, whose verdicts and codes count where it isn't FA: what may be delivered
pub record IsSeenIn (p : PlacedValue) (g : AnsweredGroup) (s : Sent) : Type 0 where
  pub set : IsSeen p s
  pub verdict : is_fa p.group ≡ false → s.answer.verdict ≡ verdict_by_standing p
  pub clear : is_fa p.group ≡ false → room.has_no_code g.codes ≡ p.standing.clear
  pub fa : g.is_fa ≡ is_fa p.group
  pub judged : is_refused p.interchange ≡ false

-- S and T divide nothing
pub record IsPlain (p : PlacedValue) : Type 0 where
  pub id : id_of p.set.header ≡ codes "ST"
  pub s : is_delimiter (delims_in p) 83 ≡ false
  pub t : is_delimiter (delims_in p) 84 ≡ false

-- the sets of a text, front to back, each with its group
abbrev pub all_sent : List Answered → List (AnsweredGroup × Sent)
all_sent xs = flat_map (λ (x : Answered). flat_map (λ (g : AnsweredGroup). map (λ (a : Answer). (g, sent x g a)) g.answers) x.groups) xs

-- as the layers have them: those of interchanges that aren't refused
abbrev pub open_sets : List JudgedValue → List PlacedValue
open_sets js = filter (λ (p : PlacedValue). not (is_refused p.interchange)) (all_sets js)

pub record DeliveriesAreOne : Type 0 where
  -- a byte in the way
  pub blocked : (to : Delims) (p : PlacedValue) (s : Sent) → IsSeen p s → room.is_blocked to s ≡ old.is_blocked to p
  -- the outcome of a set
  pub outcomes : (setup : SetupValue) (guides : List GuideTree) (p : PlacedValue) (g : AnsweredGroup) (s : Sent) → IsSeenIn p g s
      → map now (room.outcomes (room_setup setup guides) g s) ≡ old.outcomes setup p
  -- the sets that go to a partner
  pub to : (setup : SetupValue) (guides : List GuideTree) (partner : ℕ) (js : List JudgedValue) (xs : List Answered)
      → AllZip (λ p (x : AnsweredGroup × Sent). IsSeenIn p x.0 x.1) (open_sets js) (all_sent xs)
      → AllZip IsSeen (old.delivered_to setup partner js) (room.delivered_to (room_setup setup guides) partner xs)
  -- a delivered set
  pub text : (to : Delims) (control : ℕ) (p : PlacedValue) (s : Sent) → IsSeen p s → IsPlain p
      → room.set_text to control s ≡ old_box.set_text to p control
