-- Each text has a night.
use Rattle.std.proofs.Common.{◌≡◌, ℕ, List, [], Option, Some, None, refl}
use Rattle.hub_kinds.specs.declared.interchange.InterchangeFault.{InterchangeFault}
use Rattle.env_index.specs.Words.{IndexEntry, IndexValue}
use Rattle.partner_setup.specs.declared.partner.Partner.{Partner}
use Rattle.partner_setup.specs.Setup.{SetupValue, sender_of}
use Rattle.night_report.specs.Report.{report_text}
use Rattle.set_answers.specs.CheckedText.{AreAnswersBy, AreCheckedAs, CheckedInterchange, IsCheckedAs, sent_by}
use Rattle.set_answers.specs.Settled.{settled_entries}
use Rattle.set_answers.specs.declared.answered.AnsweredGroup.{AnsweredGroup}
use Rattle.night_batches.specs.Night.{AreForPartners, IsNight, acks_of, box_of, judgements, next_of}
use Rattle.night_batches.specs.declared.night.Night.{Night}
use Rattle.accepted_guides.specs.Accepted.{AreGuidesAccepted}
use Rattle.layers_exist.specs.Laws.{EachGroupHasItsAnswers, EachTextHasANight, EachTextHasAnIndex}
use Rattle.layers_exist.proofs.Pairs.{pairs}

-- what a function gives for each partner
for_partners : {A : Type 0} (setup : SetupValue) (f : ℕ → Partner → A) → (xs : List A) × AreForPartners setup f xs
for_partners setup f = pairs setup.partners (λ place partner x. x ≡ f place partner) (λ place partner. (f place partner, refl))

module _ (indexes : EachTextHasAnIndex) (answers : EachGroupHasItsAnswers) (text : List ℕ) (setup : SetupValue) (at : List ℕ)
    (accepted : AreGuidesAccepted setup) where
  answers_by : (e : IndexEntry) (fault : Option InterchangeFault) (sender : Option ℕ)
      → (groups : List (Option AnsweredGroup)) × AreAnswersBy text setup e fault sender groups
  answers_by e (Some fault) sender = ([], refl)
  answers_by e None None = ([], refl)
  answers_by e None (Some sender) = answers (sent_by text setup sender e) e.interchange.content.groups accepted

  checked_as : (e : IndexEntry) → (x : CheckedInterchange) × IsCheckedAs text setup e x
  checked_as e =
      let sender : Option ℕ = sender_of setup e.interchange.header in
      let groups = answers_by e e.fault sender in
      let x : CheckedInterchange = record { entry = e; sender = sender; groups = groups.0 } in
      (x, record { entry = refl; sender = refl; groups = groups.1 })

  abbrev index : IndexValue
  index = (indexes text).0

  abbrev entries : List IndexEntry
  entries = settled_entries setup index.entries

  known : (xs : List CheckedInterchange) × AreCheckedAs text setup entries xs
  known = pairs entries (λ n e x. IsCheckedAs text setup e x) (λ n e. checked_as e)

  night : (xs : List CheckedInterchange) → AreCheckedAs text setup entries xs → (night : Night) × IsNight text setup at night
  night xs are =
      let acks = for_partners setup (acks_of setup at xs) in
      let boxes = for_partners setup (box_of text setup at xs) in
      let next = for_partners setup (next_of text setup xs) in
      let report : List ℕ = report_text setup (judgements text xs) index.outside in
      let it : Night = record { acks = acks.0; boxes = boxes.0; report = report; next = next.0 } in (
        it,
        record {
          known = xs;
          outside = index.outside;
          is_known = record { index = index; read = (indexes text).1; answered = are; counted = refl };
          is = record { acks = acks.1; boxes = boxes.1; report = refl; next = next.1 };
        },
      )

pub nights : EachTextHasAnIndex → EachGroupHasItsAnswers → EachTextHasANight
nights indexes answers text setup at accepted =
    let xs = known indexes answers text setup at accepted in night indexes answers text setup at accepted xs.0 xs.1
