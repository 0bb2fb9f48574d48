use Rattle.std.proofs.Common.{◌≡◌, ℕ, List, Option, refl, sym, ap, ◌∙◌}
use Rattle.env_index.specs.Words.{InterchangeEntry}
use Rattle.partner_setup.specs.Setup.{sender_of}
use Rattle.set_answers.specs.declared.answered.AnsweredGroup.{AnsweredGroup}
use Rattle.set_answers.specs.CheckedText.{CheckedInterchange}
use Rattle.track_table.proofs.noted.note_interchange.Goals as goal

pub returns : goal.returns
returns c =
    let groups : List (Option AnsweredGroup) = c.in_ok-groups.groups.items in
    let x : CheckedInterchange = record { entry = c.args.entry.now; sender = c.sender_of-sender.result; groups = groups } in
    let sender = c.sender_of-sender.ensures.sender ∙ ap (λ (h : List ℕ). sender_of c.args.setup.now h)
    (c.header.ensures ∙ ap (λ (i : InterchangeEntry). i.header) c.interchange.ensures.value) in
    record {
      known = x;
      answered = record { entry = refl; sender = sender; groups = c.in_ok-groups.ensures.answers };
      judgement = c.in_ok-judged.ensures x refl refl (sym c.as_slice.ensures.value);
      is = c.in_ok-notes.ensures x refl refl refl;
    }
