-- What a night gives (own): for each partner its acknowledgments, its mailbox and its next counters, and one report; read from the text
-- front to back. It names no piece, worker, window or order of arrival.
use Rattle.std.specs.Prelude.{◌≡◌, ℕ, ◌+◌, List, map, length}
use Rattle.hub_kinds.specs.declared.counters.Counters.{Counters}
use Rattle.env_index.specs.Words.{IndexValue, IsIndex}
use Rattle.count_numbers.specs.Layout.{interchange_count}
use Rattle.count_numbers.specs.Num.{num}
use Rattle.partner_setup.specs.declared.partner.Partner.{Partner}
use Rattle.partner_setup.specs.Setup.{SetupValue}
use Rattle.mailbox.specs.Deliveries.{delivered_to}
use Rattle.answered_sets.specs.Judged.{JudgedValue, PlacedValue}
use Rattle.mailbox.specs.Mailbox.{box_text, group_total}
use Rattle.set_answers.specs.CheckedText.{CheckedInterchange, AreCheckedAs, acknowledged_to, acknowledgments_to, groups_to}
use Rattle.set_answers.specs.CheckedText.{judged}
use Rattle.set_answers.specs.Pairs.{AreAllPairs}
use Rattle.set_answers.specs.Settled.{settled_entries}
use Rattle.night_report.specs.Report.{report_text}
use Rattle.night_batches.specs.declared.night.Night.{Night}

-- what is known of a text: its interchanges, answered, and how many bytes are outside of them
pub record IsKnown (text : List ℕ) (setup : SetupValue) (known : List CheckedInterchange) (outside : ℕ) : Type 0 where
  pub index : IndexValue
  pub read : IsIndex text index
  pub answered : AreCheckedAs text setup (settled_entries setup index.entries) known
  pub counted : outside ≡ index.outside

-- the same by the standings of its groups alone
abbrev pub judgements : (text : List ℕ) → List CheckedInterchange → List JudgedValue
judgements text known = map (judged text) known

-- the sets that are delivered to a partner
abbrev pub sets_to : (text : List ℕ) → SetupValue → List CheckedInterchange → (place : ℕ) → List PlacedValue
sets_to text setup known place = delivered_to setup place (judgements text known)

-- a partner's acknowledgments
abbrev pub acks_of : SetupValue → (at : List ℕ) → List CheckedInterchange → (place : ℕ) → Partner → List ℕ
acks_of setup at known place partner = (acknowledgments_to setup at known place partner).text

-- its mailbox, whose interchanges and groups are numbered after those of its acknowledgments
abbrev pub box_of : (text : List ℕ) → SetupValue → (at : List ℕ) → List CheckedInterchange → (place : ℕ) → Partner → List ℕ
box_of text setup at known place partner =
    box_text setup partner at (length (acknowledged_to place known)) (groups_to (acknowledged_to place known))
    (sets_to text setup known place)

-- the counters after this many acknowledgments with this many groups, and this many delivered sets with this many
abbrev pub counters_by : Counters → (cap acknowledgments groups sets delivered_groups : ℕ) → Counters
counters_by now cap acknowledgments groups sets delivered_groups = record {
  interchange = num now.interchange (acknowledgments + interchange_count cap sets);
  group = num now.group (groups + delivered_groups);
  set = num now.set sets;
}

-- its next counters
abbrev pub next_of : (text : List ℕ) → SetupValue → List CheckedInterchange → (place : ℕ) → Partner → Counters
next_of text setup known place partner =
    counters_by partner.counters partner.cap (length (acknowledged_to place known)) (groups_to (acknowledged_to place known))
    (length (sets_to text setup known place)) (group_total partner.cap (sets_to text setup known place))

-- for each partner of a setup, by its place, what a function gives
abbrev pub AreForPartners : {A : Type 0} → SetupValue → (ℕ → Partner → A) → List A → Type 0
AreForPartners {A} setup f xs = AreAllPairs {A = Partner} {B = A} (λ place partner x. x ≡ f place partner) setup.partners xs

-- a night, of what is known of a text
pub record IsNightOf (text : List ℕ) (setup : SetupValue) (at : List ℕ) (known : List CheckedInterchange) (outside : ℕ)
    (night : Night) : Type 0 where
  pub acks : AreForPartners setup (acks_of setup at known) night.acks
  pub boxes : AreForPartners setup (box_of text setup at known) night.boxes
  pub report : night.report ≡ report_text setup (judgements text known) outside
  pub next : AreForPartners setup (next_of text setup known) night.next

-- the night of a text, a setup and a moment
pub record IsNight (text : List ℕ) (setup : SetupValue) (at : List ℕ) (night : Night) : Type 0 where
  pub known : List CheckedInterchange
  pub outside : ℕ
  pub is_known : IsKnown text setup known outside
  pub is : IsNightOf text setup at known outside night

-- the same of the settled index of a text (for inner clauses)
pub record IsNightIn (index : IndexValue) (setup : SetupValue) (at : List ℕ) (night : Night) : Type 0 where
  pub known : List CheckedInterchange
  pub answered : AreCheckedAs index.text setup index.entries known
  pub is : IsNightOf index.text setup at known index.outside night
