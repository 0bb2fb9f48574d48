-- What is known of a text before anything is delivered (own): its interchanges with their senders, their faults and the answers to their
-- groups and sets; and the acknowledgments (X12.5, TA1; 999 guide) that each partner is sent.
use Rattle.std.specs.Prelude.{◌≡◌, ℕ, ◌+◌, ◌^◌, ◌<◌, ◌==◌, Bool, false, List, [], ◌∷◌, ◌++◌, map, filter, length, Option, Some, None}
use Rattle.std.specs.Prelude.{slice_get, if◌then◌else◌}
use Rattle.x12_bytes.specs.Header.{header_delims}
use Rattle.hub_kinds.specs.declared.interchange.InterchangeFault.{InterchangeFault}
use Rattle.env_index.specs.Words.{IndexEntry}
use Rattle.count_numbers.specs.Num.{num}
use Rattle.partner_setup.specs.declared.partner.Partner.{Partner}
use Rattle.partner_setup.specs.Envelopes.{envelope_to}
use Rattle.partner_setup.specs.Setup.{SetupValue, sender_of}
use Rattle.answered_sets.specs.Answered.{ta1_note}
use Rattle.answered_sets.specs.Judged.{JudgedValue}
use Rattle.set_answers.specs.declared.answered.AnsweredGroup.{AnsweredGroup}
use Rattle.set_answers.specs.Acknowledgments.{Acknowledgment, acknowledgment_text, acknowledgment_group_count, is_there}
use Rattle.set_answers.specs.Answers.{AreGroupAnswers, SentValue}
use Rattle.set_answers.specs.Pairs.{AreAllPairs}
use Rattle.set_answers.specs.Standings.{standing_by}

-- an interchange with its fault, its sender's place in the setup, and the answers to its groups
pub record CheckedInterchange : Type 0 where
  pub entry : IndexEntry
  pub sender : Option ℕ
  pub groups : List (Option AnsweredGroup)

-- the interchanges of this sender in the text
abbrev pub sent_by : (text : List ℕ) → SetupValue → (sender : ℕ) → IndexEntry → SentValue
sent_by text setup sender e = record { text = text; setup = setup; sender = sender; delims = header_delims e.interchange.header }

-- nothing of a refused interchange is answered
abbrev pub AreAnswersBy : (text : List ℕ) → SetupValue → IndexEntry → Option InterchangeFault → Option ℕ
    → List (Option AnsweredGroup) → Type 0
AreAnswersBy text setup e (Some fault) sender groups = groups ≡ []
AreAnswersBy text setup e None None groups = groups ≡ []
AreAnswersBy text setup e None (Some sender) groups = AreGroupAnswers (sent_by text setup sender e) e.interchange.content.groups groups

-- an interchange of the settled index of a text, answered
pub record IsCheckedAs (text : List ℕ) (setup : SetupValue) (e : IndexEntry) (x : CheckedInterchange) : Type 0 where
  pub entry : x.entry ≡ e
  pub sender : x.sender ≡ sender_of setup e.interchange.header
  pub groups : AreAnswersBy text setup e e.fault x.sender x.groups

-- what is known of an interchange by its standings alone
abbrev pub judged : (text : List ℕ) → CheckedInterchange → JudgedValue
judged text x = record {
  text = text;
  interchange = x.entry.interchange;
  sender = x.sender;
  fault = x.entry.fault;
  standings = map standing_by x.groups;
}

abbrev pub is_partner : (partner : ℕ) → Option ℕ → Bool
is_partner partner None = false
is_partner partner (Some recipient) = recipient == partner

-- what an interchange is acknowledged with: a TA1 where it is answered, and a 999 for each group that is responded to
abbrev pub acknowledgment_of : CheckedInterchange → Acknowledgment
acknowledgment_of x = record {
  header = x.entry.interchange.header;
  note = ta1_note x.sender x.entry.fault x.entry.interchange;
  groups = x.groups;
}

-- to whom an interchange is acknowledged: to its sender, where there is a TA1 or a 999
abbrev pub recipient_by : (sender : Option ℕ) → Acknowledgment → Option ℕ
recipient_by sender a = if is_there a then sender else None

abbrev pub recipient_of : CheckedInterchange → Option ℕ
recipient_of x = recipient_by x.sender (acknowledgment_of x)

abbrev pub is_acknowledged_to : (partner : ℕ) → CheckedInterchange → Bool
is_acknowledged_to partner x = is_partner partner (recipient_of x)

abbrev pub acknowledged_to : (partner : ℕ) → List CheckedInterchange → List CheckedInterchange
acknowledged_to partner xs = filter (is_acknowledged_to partner) xs

-- how many groups the acknowledgments of these have
abbrev pub groups_to : List CheckedInterchange → ℕ
groups_to [] = 0
groups_to (x ∷ xs) = acknowledgment_group_count (acknowledgment_of x) + groups_to xs

-- acknowledgments, before which the partner is sent k acknowledgments and g groups
abbrev pub acknowledgments_from : SetupValue → Partner → (at : List ℕ) → (k g : ℕ) → List CheckedInterchange → List ℕ
acknowledgments_from setup partner at k g [] = []
acknowledgments_from setup partner at k g (x ∷ xs) =
    acknowledgment_text (envelope_to setup partner) at (num partner.counters.interchange k) (num partner.counters.group g)
    (acknowledgment_of x)
    ++ acknowledgments_from setup partner at (k + 1) (g + acknowledgment_group_count (acknowledgment_of x)) xs

-- a partner's acknowledgments: their text, how many they are, and how many groups they have
pub record SentValues : Type 0 where
  pub text : List ℕ
  pub count : ℕ
  pub groups : ℕ

abbrev pub acknowledgments_to : SetupValue → (at : List ℕ) → List CheckedInterchange → (place : ℕ) → Partner → SentValues
acknowledgments_to setup at xs place partner = record {
  text = acknowledgments_from setup partner at 0 0 (acknowledged_to place xs);
  count = length (acknowledged_to place xs);
  groups = groups_to (acknowledged_to place xs);
}

-- nothing is sent yet
abbrev pub nothing_sent : SentValues
nothing_sent = record { text = []; count = 0; groups = 0 }

-- the same with one acknowledgment more
abbrev pub with_next : SetupValue → Partner → (at : List ℕ) → SentValues → Acknowledgment → SentValues
with_next setup partner at sent a = record {
  text = sent.text
      ++ acknowledgment_text (envelope_to setup partner) at (num partner.counters.interchange sent.count)
      (num partner.counters.group sent.groups) a;
  count = sent.count + 1;
  groups = sent.groups + acknowledgment_group_count a;
}

-- one of these for each partner of the setup
pub record AreAcknowledgments (setup : SetupValue) (at : List ℕ) (xs : List CheckedInterchange) (files : List SentValues) : Type 0 where
  pub count : length files ≡ length setup.partners
  pub each : (place : ℕ) (partner : Partner) → slice_get setup.partners place ≡ Some partner
      → slice_get files place ≡ Some (acknowledgments_to setup at xs place partner)

-- the interchanges of the settled index of a text are answered
abbrev pub AreCheckedAs : (text : List ℕ) → SetupValue → List IndexEntry → List CheckedInterchange → Type 0
AreCheckedAs text setup entries xs = AreAllPairs (λ n e x. IsCheckedAs text setup e x) entries xs

-- these are the acknowledgments of interchanges after which there is room for this many more
abbrev pub HaveRoom : SetupValue → (at : List ℕ) → (n : ℕ) → List SentValues → Type 0
HaveRoom setup at n files = (before : List CheckedInterchange) × AreAcknowledgments setup at before files × (length before + n < 2 ^ 64)

-- what is left of the check: the interchanges with their standings, and each partner's acknowledgments, after those of the interchanges
-- before
pub record IsCheckedBehind (text : List ℕ) (setup : SetupValue) (at : List ℕ) (entries : List IndexEntry)
    (judgements : List JudgedValue) (old new : List SentValues) : Type 0 where
  pub answered : List CheckedInterchange
  pub are : AreCheckedAs text setup entries answered
  pub judged : judgements ≡ map (judged text) answered
  pub acknowledged : (before : List CheckedInterchange) → AreAcknowledgments setup at before old
      → AreAcknowledgments setup at (before ++ answered) new
