use Rattle.std.proofs.Common.{◌≡◌, true, sym, ◌∙◌}
use Rattle.set_answers.specs.Acknowledgments.{has_any, present}
use Rattle.set_answers.proofs.Reporting.{group_written}
use Rattle.set_answers.proofs.acknowledge.append_group.Goals as goal

pub returns-clause-text : goal.returns-clause-text
returns-clause-text g c =
    let any : has_any (present c.args.groups.now) ≡ true = sym c.has_any.ensures ∙ c.if-not-has_any.false in
    group_written c.args.envelope.now c.args.at.now c.args.control (present c.args.groups.now) c.in_ok-reports.reports
    c.args.out.now.items c.append_ack_group_header.new.out.items c.append_reports.new.out.items c.append_group_trailer.new.out.items
    any c.in_ok-reports.ensures.count c.in_ok-append_ack_group_header.ensures.text c.in_ok-reports.ensures.text
    c.in_ok-append_group_trailer.ensures.text
