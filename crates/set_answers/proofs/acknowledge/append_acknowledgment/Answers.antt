use Rattle.std.proofs.Common.{◌++◌, List, ℕ, Option, ap, ◌∙◌}
use Rattle.std.proofs.lemmas.Result.{on_ok_weaker}
use Rattle.ack_999.specs.Interchange.{group_count, group_part}
use Rattle.set_answers.specs.declared.answered.AnsweredGroup.{AnsweredGroup}
use Rattle.set_answers.specs.Acknowledgments.{present, reports_from}
use Rattle.set_answers.proofs.Reporting.{acknowledgment_written}
use Rattle.set_answers.proofs.acknowledge.append_acknowledgment.Goals as goal

pub returns-clause-text : goal.returns-clause-text
returns-clause-text g c =
    let e = c.args.envelope.now in
    let at = c.args.at.now in
    let noted : List ℕ = c.append_note.new.out.items in
    let reports = λ (groups : List (Option AnsweredGroup)). reports_from e.delims 1 (present groups) in
    let grouped = c.in_ok-groups.ensures.text
    ∙ ap (λ (groups : List (Option AnsweredGroup)). noted ++ group_part e at c.args.control (reports groups)) c.groups.ensures in
    let count = c.in_ok-groups.ensures.count
    ∙ ap (λ (groups : List (Option AnsweredGroup)). group_count (reports groups)) c.groups.ensures in
    on_ok_weaker c.append_trailer.result
    (acknowledgment_written e at c.args.number c.args.control c.args.acknowledgment.now c.in_ok-groups.groups c.args.out.now.items
    c.append.new.out.items noted c.append_group.new.out.items c.append_trailer.new.out.items
    (c.in_ok-append.ensures.text ∙ ap (λ (t : List ℕ). c.args.out.now.items ++ t) (c.requires.header.text c.args.number))
    c.in_ok-append_note.ensures.text grouped count)
    c.append_trailer.ensures.text
