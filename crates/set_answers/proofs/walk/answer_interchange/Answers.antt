use Rattle.std.proofs.Common.{◌≡◌, ℕ, List, Option, refl, sym}
use Rattle.std.proofs.lemmas.Result.{IfOk-weaker}
use Rattle.hub_kinds.specs.declared.interchange.InterchangeFault.{InterchangeFault}
use Rattle.env_index.specs.Words.{InterchangeEntry}
use Rattle.answered_sets.specs.Answered.{ta1_note}
use Rattle.set_answers.specs.declared.answered.AnsweredGroup.{AnsweredGroup}
use Rattle.set_answers.specs.Acknowledgments.{Acknowledgment}
use Rattle.set_answers.specs.CheckedText.{CheckedInterchange, acknowledgment_of}
use Rattle.set_answers.proofs.walk.answer_interchange.Goals as goal

-- what was put together of an interchange is what it is acknowledged with
put_together : (x : CheckedInterchange) (i : InterchangeEntry) (fault : Option InterchangeFault) (header : List ℕ)
    (note : Option (List ℕ)) (groups : List (Option AnsweredGroup)) (a : Acknowledgment)
    → a ≡ record { header = header; note = note; groups = groups } → i ≡ x.entry.interchange → fault ≡ x.entry.fault
    → header ≡ i.header → note ≡ ta1_note x.sender fault i → groups ≡ x.groups → acknowledgment_of x ≡ a
put_together x i fault header told groups a is at faulty headed noted answered = cc

pub returns-clause-answered : goal.returns-clause-answered
returns-clause-answered g c =
    let groups : List (Option AnsweredGroup) = c.in_ok-groups.groups.items in
    let x : CheckedInterchange = record { entry = c.args.entry.now; sender = c.args.sender; groups = groups } in
    let acknowledgment : acknowledgment_of x ≡ c.new-acknowledgment.result =
    put_together x c.interchange-interchange.result.now c.fault.result _ _ _ c.new-acknowledgment.result c.new-acknowledgment.ensures
    c.interchange-interchange.ensures.value c.fault.ensures c.header.ensures c.ta1_note-note.ensures c.as_slice.ensures.value in
    IfOk-weaker c.judge.result _ _
    (λ j is. record {
      answered = x;
      is = record { entry = refl; sender = c.requires.sender; groups = c.in_ok-groups.ensures.answers };
      judged = is x refl refl (sym c.as_slice-2.ensures.value);
      sent = c.in_ok-acknowledge.ensures.sent x refl acknowledgment;
    })
    c.judge.ensures
