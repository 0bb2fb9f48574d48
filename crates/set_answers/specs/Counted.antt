-- What is known of interchanges before they are answered (own): to whom each will be acknowledged, with how many groups, and how much
-- is asked of it beforehand. Private.
use Rattle.std.specs.Prelude.{◌≡◌, ◌<◌, ◌^◌, ℕ, ◌+◌, Bool, true, false, not, ◌||◌, List, [], ◌∷◌, ◌++◌, filter, length, sum_by, Option}
use Rattle.std.specs.Prelude.{Some, None, is_some, slice_get, if◌then◌else◌}
use Rattle.std.specs.List.{list_any}
use Rattle.hub_kinds.specs.declared.interchange.InterchangeFault.{InterchangeFault}
use Rattle.env_index.specs.Words.{IndexEntry, GroupEntry}
use Rattle.partner_setup.specs.Setup.{SetupValue, sender_of}
use Rattle.answered_sets.specs.Answered.{ta1_note}
use Rattle.answered_sets.specs.Judged.{is_fa}
use Rattle.set_answers.specs.Asked.{has_places}
use Rattle.set_answers.specs.CheckedText.{SentValues, is_partner}
use Rattle.set_answers.specs.SentAfter.{CanCount}
use Rattle.set_answers.specs.Settled.{senders_of}

-- 999s will answer these groups: the sender is known, the interchange isn't refused, and one of the groups isn't FA
abbrev pub will_report : (sender : Option ℕ) → Option InterchangeFault → List GroupEntry → Bool
will_report None fault groups = false
will_report (Some sender) (Some fault) groups = false
will_report (Some sender) None groups = list_any (λ g. not (is_fa g)) groups

abbrev pub will_report_of : (sender : Option ℕ) → IndexEntry → Bool
will_report_of sender e = will_report sender e.fault e.interchange.content.groups

-- to whom it will be acknowledged: to its sender, where a TA1 or a 999 will answer it
abbrev pub recipient_from : (sender : Option ℕ) → IndexEntry → Option ℕ
recipient_from sender e = if is_some (ta1_note sender e.fault e.interchange) || will_report_of sender e then sender else None

abbrev pub recipient_of_entry : SetupValue → IndexEntry → Option ℕ
recipient_of_entry setup e = recipient_from (sender_of setup e.interchange.header) e

-- how many groups its acknowledgment will have
abbrev pub group_count_of_entry : SetupValue → IndexEntry → ℕ
group_count_of_entry setup e = if will_report_of (sender_of setup e.interchange.header) e then 1 else 0

abbrev pub entries_acknowledged_to : SetupValue → (place : ℕ) → List IndexEntry → List IndexEntry
entries_acknowledged_to setup place es = filter (λ e. is_partner place (recipient_of_entry setup e)) es

-- one acknowledgment more is counted, and not written
abbrev pub with_count : SentValues → (groups : ℕ) → SentValues
with_count sent groups = record { text = sent.text; count = sent.count + 1; groups = sent.groups + groups }

-- the acknowledgments of these are counted, and not written
abbrev pub counted_after : SetupValue → SentValues → List IndexEntry → SentValues
counted_after setup sent es = record {
  text = sent.text;
  count = sent.count + length es;
  groups = sent.groups + sum_by (group_count_of_entry setup) es;
}

pub record AreCountedAfter (setup : SetupValue) (es : List IndexEntry) (old new : List SentValues) : Type 0 where
  pub count : length new ≡ length old
  pub each : (place : ℕ) (sent : SentValues) → slice_get old place ≡ Some sent
      → slice_get new place ≡ Some (counted_after setup sent (entries_acknowledged_to setup place es))

-- the same numbers, without the text
abbrev pub without_text : SentValues → SentValues
without_text sent = record { text = []; count = sent.count; groups = sent.groups }

-- those that continue these are after them
abbrev pub continued_by : SentValues → SentValues → SentValues
continued_by sent more = record { text = sent.text ++ more.text; count = more.count; groups = more.groups }

pub record AreContinued (more old new : List SentValues) : Type 0 where
  pub count : length new ≡ length old
  pub each : (place : ℕ) (sent other : SentValues) → slice_get old place ≡ Some sent → slice_get more place ≡ Some other
      → slice_get new place ≡ Some (continued_by sent other)

-- how much is asked of groups: once of each, and once of each of its sets
abbrev pub asked_in_groups : List GroupEntry → ℕ
asked_in_groups [] = 0
asked_in_groups (group ∷ groups) = 1 + length group.sets + asked_in_groups groups

abbrev pub asked_count_by : Bool → (sender : Option ℕ) → List GroupEntry → ℕ
asked_count_by false sender groups = 0
asked_count_by true None groups = 0
asked_count_by true (Some sender) groups = 1 + asked_in_groups groups

abbrev pub asked_count_from : (sender : Option ℕ) → IndexEntry → ℕ
asked_count_from sender e = asked_count_by (has_places e.fault) sender e.interchange.content.groups

-- how much is asked of interchanges
abbrev pub asked_count_of : SetupValue → List IndexEntry → ℕ
asked_count_of setup [] = 0
asked_count_of setup (e ∷ es) = asked_count_from (sender_of setup e.interchange.header) e + asked_count_of setup es

-- what interchanges from these senders will get can be counted after these, and how much is asked of them
pub record CanCountEach (setup : SetupValue) (senders : List (Option ℕ)) (es : List IndexEntry) (old : List SentValues) : Type 0 where
  pub from : senders ≡ senders_of setup es
  pub count : length old ≡ length setup.partners
  pub room : CanCount (length es) old
  pub findings : asked_count_of setup es < 2 ^ 64
