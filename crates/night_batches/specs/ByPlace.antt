-- A partner's mailbox and next counters (own), by what is kept at its place: its acknowledgments and the sets that were written for it.
use Rattle.std.specs.Prelude.{ℕ, ◌≡◌, ◌+◌, List, [], Some, length, slice_get, slice_index_or}
use Rattle.hub_kinds.specs.declared.counters.Counters.{Counters}
use Rattle.partner_setup.specs.declared.partner.Partner.{Partner}
use Rattle.partner_setup.specs.Setup.{SetupValue}
use Rattle.mailbox.specs.Rendered.{RenderedValue, box_of_rendered, groups_of_rendered}
use Rattle.set_answers.specs.CheckedText.{SentValues, nothing_sent}
use Rattle.night_batches.specs.Night.{counters_by}

-- the acknowledgments that it is sent
abbrev pub sent_at : List SentValues → (place : ℕ) → SentValues
sent_at files place = slice_index_or files place nothing_sent

-- the sets that were written for it
abbrev pub sets_at : List (List RenderedValue) → (place : ℕ) → List RenderedValue
sets_at boxes place = slice_index_or boxes place []

-- the mailbox after these acknowledgments
abbrev pub box_behind : SetupValue → (at : List ℕ) → SentValues → List RenderedValue → Partner → List ℕ
box_behind setup at sent sets partner = box_of_rendered setup partner at sent.count sent.groups sets

abbrev pub box_by : SetupValue → (at : List ℕ) → List SentValues → List (List RenderedValue) → (place : ℕ) → Partner → List ℕ
box_by setup at files boxes place partner = box_behind setup at (sent_at files place) (sets_at boxes place) partner

-- the counters after these acknowledgments and sets
abbrev pub next_behind : SentValues → List RenderedValue → Partner → Counters
next_behind sent sets partner =
    counters_by partner.counters partner.cap sent.count sent.groups (length sets) (groups_of_rendered partner.cap sets)

abbrev pub next_by : List SentValues → List (List RenderedValue) → (place : ℕ) → Partner → Counters
next_by files boxes place partner = next_behind (sent_at files place) (sets_at boxes place) partner

-- of the partners from a place on, with these sets, the mailboxes and the counters
pub record AreClosedFrom (setup : SetupValue) (at : List ℕ) (files : List SentValues) (from : ℕ) (boxes : List (List RenderedValue))
    (texts : List (List ℕ)) (counters : List Counters) : Type 0 where
  pub texts_count : length texts ≡ length boxes
  pub counters_count : length counters ≡ length boxes
  pub text : (k : ℕ) (partner : Partner) (sets : List RenderedValue) → slice_get setup.partners (from + k) ≡ Some partner
      → slice_get boxes k ≡ Some sets → slice_get texts k ≡ Some (box_behind setup at (sent_at files (from + k)) sets partner)
  pub next : (k : ℕ) (partner : Partner) (sets : List RenderedValue) → slice_get setup.partners (from + k) ≡ Some partner
      → slice_get boxes k ≡ Some sets → slice_get counters k ≡ Some (next_behind (sent_at files (from + k)) sets partner)
