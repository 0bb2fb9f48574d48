-- More interchanges are acknowledged after what partners were sent before (own). Private.
use Rattle.std.specs.Prelude.{◌≡◌, ℕ, ◌+◌, ◌^◌, ◌<◌, List, [], ◌∷◌, ◌++◌, map, length, Option, Some, slice_get}
use Rattle.std.specs.List.{All, AllZip}
use Rattle.env_index.specs.Words.{IndexEntry, HasSpans}
use Rattle.partner_setup.specs.declared.partner.Partner.{Partner}
use Rattle.partner_setup.specs.Setup.{SetupValue}
use Rattle.answered_sets.specs.Judged.{JudgedValue}
use Rattle.set_answers.specs.Asked.{IsFound, asked_of}
use Rattle.set_answers.specs.CheckedText.{CheckedInterchange, AreCheckedAs, IsCheckedAs, SentValues, acknowledged_to}
use Rattle.set_answers.specs.CheckedText.{acknowledgments_from, groups_to, judged}
use Rattle.set_answers.specs.Settled.{senders_of}
use Rattle.set_check.specs.declared.finding.Finding.{Finding}

-- a partner's acknowledgments, with those of these interchanges after them
abbrev pub sent_after : SetupValue → Partner → (at : List ℕ) → SentValues → List CheckedInterchange → SentValues
sent_after setup partner at sent xs = record {
  text = sent.text ++ acknowledgments_from setup partner at sent.count sent.groups xs;
  count = sent.count + length xs;
  groups = sent.groups + groups_to xs;
}

-- each partner's, with those of the interchanges that are acknowledged to it
pub record AreSentAfter (setup : SetupValue) (at : List ℕ) (answered : List CheckedInterchange) (old new : List SentValues) : Type 0 where
  pub count : length new ≡ length old
  pub each : (place : ℕ) (partner : Partner) (sent : SentValues) → slice_get setup.partners place ≡ Some partner
      → slice_get old place ≡ Some sent
      → slice_get new place ≡ Some (sent_after setup partner at sent (acknowledged_to place answered))

-- n more acknowledgments, each with a group, can be counted after these
abbrev pub CanCount : (n : ℕ) → List SentValues → Type 0
CanCount n files =
    (place : ℕ) (sent : SentValues) → slice_get files place ≡ Some sent → (sent.count + n < 2 ^ 64) × (sent.groups + n < 2 ^ 64)

-- an interchange more is answered
pub record IsNextAnswered (text : List ℕ) (setup : SetupValue) (at : List ℕ) (e : IndexEntry) (old new : List SentValues)
    (judgement : JudgedValue) : Type 0 where
  pub answered : CheckedInterchange
  pub is : IsCheckedAs text setup e answered
  pub judged : judgement ≡ judged text answered
  pub sent : AreSentAfter setup at (answered ∷ []) old new

-- interchanges are answered
pub record AreAnsweredAfter (text : List ℕ) (setup : SetupValue) (at : List ℕ) (entries : List IndexEntry)
    (judgements : List JudgedValue) (old new : List SentValues) : Type 0 where
  pub answered : List CheckedInterchange
  pub are : AreCheckedAs text setup entries answered
  pub judged : judgements ≡ map (judged text) answered
  pub sent : AreSentAfter setup at answered old new

-- interchanges can be answered by their senders and by what was found out at their places, after these acknowledgments
pub record CanAnswer (text : List ℕ) (setup : SetupValue) (entries : List IndexEntry) (senders : List (Option ℕ))
    (findings : List Finding) (files : List SentValues) : Type 0 where
  pub spans : All (λ e. HasSpans text e.interchange) entries
  pub from : senders ≡ senders_of setup entries
  pub found : AllZip IsFound (asked_of text setup entries) findings
  pub count : length files ≡ length setup.partners
  pub room : CanCount (length entries) files
