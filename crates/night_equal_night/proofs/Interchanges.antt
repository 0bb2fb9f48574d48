-- An interchange of the index and the same of the definition are answered and shown alike.
use Rattle.std.proofs.Common.{◌≡◌, ℕ, List, [], map, Option, Some, None, length, refl, sym, ap, ◌∙◌, subst}
use Rattle.std.proofs.lemmas.List.Elements.{All-nil}
use Rattle.x12_bytes.specs.Header.{header_delims}
use Rattle.hub_kinds.specs.declared.interchange.InterchangeFault.{InterchangeFault}
use Rattle.env_index.specs.Words as then
use Rattle.partner_setup.specs.Setup.{SetupValue, sender_of}
use Rattle.answered_sets.specs.Answered as old_note
use Rattle.set_answers.specs.Acknowledgments.{Acknowledgment}
use Rattle.set_answers.specs.Answers.{AreGroupAnswers}
use Rattle.set_answers.specs.CheckedText.{CheckedInterchange, AreAnswersBy, sent_by, judged, acknowledgment_of}
use Rattle.set_answers.specs.declared.answered.AnsweredGroup as layer
use Rattle.night_law.proofs.ForAbove.{IsSource}
use Rattle.night_definition.specs.Interchanges.{Interchange}
use Rattle.night_definition.specs.Setup.{Judged}
use Rattle.night_definition.specs.Answers.{Answered, answered, groups_after}
use Rattle.night_definition.specs.Acknowledgments as room
use Rattle.night_equal_text.specs.Kept.{IsKept}
use Rattle.night_equal_text.specs.Spanned.{AreGroupsIn}
use Rattle.night_equal_text.specs.LookedUp.{seen_setup}
use Rattle.night_equal_text.specs.Faulty.{IsJudgedAs}
use Rattle.night_equal_text.specs.Answered.{ChecksAreOne, AreGroupsOf}
use Rattle.night_equal_text.specs.Laws.{AnswersFollow, InterchangesAreKept}
use Rattle.night_equal_writing.specs.Acknowledgments.{acknowledgment, answered_group, HaveTheirCodes}
use Rattle.night_equal_writing.specs.Answers.{IsAnswered}
use Rattle.night_equal_writing.specs.Answers as writing
use Rattle.night_equal_writing.specs.Report.{IsTold}
use Rattle.night_equal_night.proofs.Answers.{groups_are, reported_coded}
use Rattle.night_equal_night.proofs.Groups.{all_groups_zip, groups_long}

-- what the layers know of an interchange, and what the definition has of it
pub record IsReady (text : List ℕ) (setup : SetupValue) (c : CheckedInterchange) (j : Judged) : Type 0 where
  pub judged : IsJudgedAs text setup j c.entry
  pub sets : AreGroupsIn text j.interchange.delims j.interchange.content.groups c.entry.interchange.content.groups
  pub source : IsSource text c.entry.interchange
  pub sender : c.sender ≡ sender_of setup c.entry.interchange.header
  pub groups : AreAnswersBy text setup c.entry c.entry.fault c.sender c.groups
  pub known : c.entry.fault ≡ None → sender_of setup c.entry.interchange.header ≡ None → ⊥

abbrev acknowledgment_with : (header : List ℕ) → (note : Option (List ℕ)) → List (Option layer.AnsweredGroup) → Acknowledgment
acknowledgment_with header note groups = record { header = header; note = note; groups = groups }

module _ (follow : AnswersFollow) (checks : ChecksAreOne) (writes : writing.AnswersAreOne) (text : List ℕ) (setup : SetupValue)
    (x : Interchange) (e : then.InterchangeEntry) (kept : IsKept x e)
    (is_in : AreGroupsIn text x.delims x.content.groups e.content.groups) (source : IsSource text e) where
  abbrev entry_with : Option InterchangeFault → then.IndexEntry
  entry_with f = record { interchange = e; fault = f }

  abbrev checked_with : Option InterchangeFault → Option ℕ → List (Option layer.AnsweredGroup) → CheckedInterchange
  checked_with f s os = record { entry = entry_with f; sender = s; groups = os }

  abbrev answered_with : Option InterchangeFault → Option ℕ → Answered
  answered_with f s = answered (seen_setup setup) (record { interchange = x; sender = s; fault = f })

  in_marks : AreGroupsIn text (header_delims e.header) x.content.groups e.content.groups
  in_marks = subst (λ d. AreGroupsIn text d x.content.groups e.content.groups) kept.delims is_in

  count : length e.content.groups ≡ length x.content.groups
  count = groups_long x.content.groups e.content.groups kept.content.groups

  -- the groups of an interchange without fault, whose sender is known
  groups_of : (n : ℕ) (os : List (Option layer.AnsweredGroup))
      → AreGroupAnswers (sent_by text setup n (entry_with None)) e.content.groups os
      → AreGroupsOf (groups_after (seen_setup setup) n x.delims [] x.content.groups) os
  groups_of n os are =
      subst (λ d. AreGroupsOf (groups_after (seen_setup setup) n d [] x.content.groups) os) (sym kept.delims)
      (follow checks (sent_by text setup n (entry_with None)) x.content.groups e.content.groups os kept.content.groups in_marks are)

  pub told : (f : Option InterchangeFault) (s : Option ℕ) (os : List (Option layer.AnsweredGroup))
      → AreAnswersBy text setup (entry_with f) f s os → (f ≡ None → s ≡ None → ⊥)
      → IsTold (judged text (checked_with f s os)) (answered_with f s)
  told (Some k) s os are known = record {
    header = sym kept.header;
    start = sym kept.start;
    sender = refl;
    fault = refl;
    ta1s = sym kept.content.ta1s;
    count = count;
    groups = tt;
  }
  told None None os are known = absurd (known refl refl)
  told None (Some n) os are known = record {
    header = sym kept.header;
    start = sym kept.start;
    sender = refl;
    fault = refl;
    ta1s = sym kept.content.ta1s;
    count = count;
    groups = all_groups_zip (seen_setup setup) n x.delims (judged text (checked_with None (Some n) os)) (answered_with None (Some n)) refl
        kept.delims refl x.content.groups e.content.groups os kept.content.groups in_marks source.1 (groups_of n os are) refl;
  }

  note_is : (f : Option InterchangeFault) (s : Option ℕ)
      → room.ta1_note (record { interchange = x; sender = s; fault = f }) ≡ old_note.ta1_note s f e
  note_is f s = writes.note (record { interchange = x; sender = s; fault = f }) e (sym kept.header) count

  with_groups : (f : Option InterchangeFault) (s : Option ℕ) (os : List (Option layer.AnsweredGroup))
      → map answered_group (answered_with f s).groups ≡ os
      → acknowledgment_of (checked_with f s os) ≡ acknowledgment (answered_with f s)
  with_groups f s os groups =
      ap (λ h. acknowledgment_with h (old_note.ta1_note s f e) os) (sym kept.header)
      ∙ ap (λ n. acknowledgment_with x.header n os) (sym (note_is f s))
      ∙ ap (acknowledgment_with x.header (room.ta1_note (record { interchange = x; sender = s; fault = f }))) (sym groups)

  pub acknowledged : (f : Option InterchangeFault) (s : Option ℕ) (os : List (Option layer.AnsweredGroup))
      → AreAnswersBy text setup (entry_with f) f s os → (f ≡ None → s ≡ None → ⊥)
      → IsAnswered (checked_with f s os) (answered_with f s)
  acknowledged (Some k) s os are known = record {
    acknowledgment = with_groups (Some k) s os (sym are);
    sender = refl;
    codes = All-nil HaveTheirCodes;
  }
  acknowledged None None os are known = absurd (known refl refl)
  acknowledged None (Some n) os are known = record {
    acknowledgment = with_groups None (Some n) os
        (groups_are (groups_after (seen_setup setup) n x.delims [] x.content.groups) os (groups_of n os are));
    sender = refl;
    codes = reported_coded (sent_by text setup n (entry_with None)) e.content.groups
        (groups_after (seen_setup setup) n x.delims [] x.content.groups) os are (groups_of n os are);
  }

module _ (keeps : InterchangesAreKept) (follow : AnswersFollow) (checks : ChecksAreOne) (writes : writing.AnswersAreOne)
    (text : List ℕ) (setup : SetupValue) (c : CheckedInterchange) (j : Judged) (ready : IsReady text setup c j) where
  kept_of : IsKept j.interchange c.entry.interchange
  kept_of = keeps text j.interchange c.entry.interchange ready.judged.same

  known : c.entry.fault ≡ None → c.sender ≡ None → ⊥
  known f s = ready.known f (sym ready.sender ∙ s)

  abbrev judged_with : Option ℕ → Option InterchangeFault → Judged
  judged_with s f = record { interchange = j.interchange; sender = s; fault = f }

  same : judged_with c.sender c.entry.fault ≡ j
  same =
      ap (λ s. judged_with s c.entry.fault) (ready.sender ∙ sym ready.judged.sender)
      ∙ ap (judged_with j.sender) (sym ready.judged.fault)

  pub is_told : IsTold (judged text c) (answered (seen_setup setup) j)
  is_told =
      subst (λ k. IsTold (judged text c) (answered (seen_setup setup) k)) same
      (told follow checks writes text setup j.interchange c.entry.interchange kept_of ready.sets ready.source c.entry.fault c.sender
      c.groups ready.groups known)

  pub is_answered : IsAnswered c (answered (seen_setup setup) j)
  is_answered =
      subst (λ k. IsAnswered c (answered (seen_setup setup) k)) same
      (acknowledged follow checks writes text setup j.interchange c.entry.interchange kept_of ready.sets ready.source c.entry.fault c.sender
      c.groups ready.groups known)
