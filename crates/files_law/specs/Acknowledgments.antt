-- X12.5, interchange: what each partner reads in its acknowledgments of a night, by the definition of the index.
use Rattle.std.specs.Prelude.{ℕ, ◌+◌, List, [], ◌∷◌}
use Rattle.count_numbers.specs.Num.{num}
use Rattle.partner_setup.specs.declared.partner.Partner.{Partner}
use Rattle.partner_setup.specs.Envelopes.{envelope_to}
use Rattle.partner_setup.specs.Setup.{SetupValue}
use Rattle.set_answers.specs.Acknowledgments.{acknowledgment_text, acknowledgment_group_count}
use Rattle.set_answers.specs.CheckedText.{CheckedInterchange, acknowledged_to, acknowledgment_of}
use Rattle.set_answers.specs.Pairs.{AreAllPairs}
use Rattle.set_answers.specs.Settled.{settled_entries}
use Rattle.night_batches.specs.Night.{IsKnown}
use Rattle.night_law.specs.Quotable.{AreQuotable}
use Rattle.files_law.specs.Files.{HasInterchanges}

-- the acknowledgments of some interchanges, each for itself, before which the partner is sent k acknowledgments and g groups
abbrev pub acknowledgment_texts : SetupValue → Partner → (at : List ℕ) → (k g : ℕ) → List CheckedInterchange → List (List ℕ)
acknowledgment_texts setup partner at k g [] = []
acknowledgment_texts setup partner at k g (x ∷ xs) =
    acknowledgment_text (envelope_to setup partner) at (num partner.counters.interchange k) (num partner.counters.group g)
    (acknowledgment_of x)
    ∷ acknowledgment_texts setup partner at (k + 1) (g + acknowledgment_group_count (acknowledgment_of x)) xs

-- a partner's acknowledgments have just those of its interchanges that are acknowledged
abbrev pub HasAcknowledgments : SetupValue → (at : List ℕ) → List CheckedInterchange → (place : ℕ) → Partner → (file : List ℕ) → Type 0
HasAcknowledgments setup at known place partner file =
    HasInterchanges (acknowledgment_texts setup partner at 0 0 (acknowledged_to place known)) file

-- so it is for each partner where the reference numbers of its guides can be quoted
pub record AreAcknowledgmentsRead (text : List ℕ) (setup : SetupValue) (at : List ℕ) (acknowledgments : List (List ℕ)) : Type 0 where
  pub known : List CheckedInterchange
  pub outside : ℕ
  pub is_known : IsKnown text setup known outside
  pub each : AreAllPairs
      (λ place partner file.
      AreQuotable text setup place partner (settled_entries setup is_known.index.entries)
      → HasAcknowledgments setup at known place partner file) setup.partners acknowledgments
