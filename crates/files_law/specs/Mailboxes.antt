-- X12.5, interchange: what each partner reads in its mailbox of a night, by the definition of the index.
use Rattle.std.specs.Prelude.{ℕ, ◌+◌, List, [], ◌∷◌, length}
use Rattle.count_numbers.specs.Layout.{interchanges_of}
use Rattle.count_numbers.specs.Num.{num}
use Rattle.partner_setup.specs.declared.partner.Partner.{Partner}
use Rattle.partner_setup.specs.Setup.{SetupValue}
use Rattle.mailbox.specs.Mailbox.{delivered_text}
use Rattle.mailbox.specs.Numbered.{NumberedValue, groups_of, numbered_from}
use Rattle.set_answers.specs.CheckedText.{CheckedInterchange, acknowledged_to, groups_to}
use Rattle.set_answers.specs.Pairs.{AreAllPairs}
use Rattle.night_batches.specs.Night.{IsKnown, sets_to}
use Rattle.files_law.specs.Files.{HasInterchanges}
use Rattle.files_law.specs.Written.{NoInnerHeads}

-- delivered interchanges, each for itself, the first of them as number k of those that the partner is sent
abbrev pub mailbox_texts : SetupValue → Partner → (at : List ℕ) → (k before : ℕ) → List (List NumberedValue) → List (List ℕ)
mailbox_texts setup partner at k before [] = []
mailbox_texts setup partner at k before (sets ∷ more) =
    delivered_text setup partner at (num partner.counters.interchange k) before sets
    ∷ mailbox_texts setup partner at (k + 1) (before + length (groups_of sets)) more

-- those of a partner's mailbox, after its acknowledgments
abbrev pub texts_for : (text : List ℕ) → SetupValue → (at : List ℕ) → List CheckedInterchange → (place : ℕ) → Partner → List (List ℕ)
texts_for text setup at known place partner =
    mailbox_texts setup partner at (length (acknowledged_to place known)) (groups_to (acknowledged_to place known))
    (interchanges_of partner.cap (numbered_from 0 (sets_to text setup known place)))

-- each mailbox has just the interchanges that are written to it, where no header begins at a segment that may be between ST and SE
pub record AreMailboxesRead (text : List ℕ) (setup : SetupValue) (at : List ℕ) (boxes : List (List ℕ)) : Type 0 where
  pub known : List CheckedInterchange
  pub outside : ℕ
  pub is_known : IsKnown text setup known outside
  pub each : AreAllPairs
      (λ place partner box. NoInnerHeads partner.delims box 0 (texts_for text setup at known place partner)
      → HasInterchanges (texts_for text setup at known place partner) box) setup.partners boxes
