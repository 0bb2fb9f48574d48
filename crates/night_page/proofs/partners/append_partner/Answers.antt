use Rattle.std.proofs.Common.{◌++◌}
use Rattle.std.specs.Prelude.{codes}
use Rattle.night_page.specs.Page.{answer_words, link_part}
use Rattle.night_page.specs.Tags.{tagged}
use Rattle.std.proofs.lemmas.Result.{on_ok_weaker}
use Rattle.night_page.proofs.Growing.{two}
use Rattle.night_page.proofs.partners.append_partner.Goals as goal

pub returns : goal.returns
returns c =
    let partner = c.args.partner.now in
    on_ok_weaker c.append_fixed-3.result (λ adds. two c.args.out.now.items c.append_tagged.new.out.items c.append_fixed-3.new.out.items
    (tagged (codes "<tr><th scope=\"row\">") partner (codes "</th><td>")) ((answer_words c.args.has_sent) ++ ((codes "</td><td>") ++
    ((answer_words c.args.has_received) ++ ((codes "</td><td>") ++ ((link_part partner (codes ".ack")) ++ ((link_part partner (codes
    ".box")) ++ (codes "</td></tr>\n")))))))
    c.in_ok-append_tagged.ensures (two c.append_tagged.new.out.items c.append_answer.new.out.items c.append_fixed-3.new.out.items
    (answer_words c.args.has_sent) ((codes "</td><td>") ++ ((answer_words c.args.has_received) ++ ((codes "</td><td>") ++ ((link_part
    partner (codes ".ack")) ++ ((link_part partner (codes ".box")) ++ (codes "</td></tr>\n"))))))
    c.in_ok-append_answer.ensures (two c.append_answer.new.out.items c.append_fixed.new.out.items c.append_fixed-3.new.out.items (codes
    "</td><td>") ((answer_words c.args.has_received) ++ ((codes "</td><td>") ++ ((link_part partner (codes ".ack")) ++ ((link_part
    partner (codes ".box")) ++ (codes "</td></tr>\n")))))
    c.in_ok-append_fixed.ensures (two c.append_fixed.new.out.items c.append_answer-2.new.out.items c.append_fixed-3.new.out.items
    (answer_words c.args.has_received) ((codes "</td><td>") ++ ((link_part partner (codes ".ack")) ++ ((link_part partner (codes
    ".box")) ++ (codes "</td></tr>\n"))))
    c.in_ok-append_answer-2.ensures (two c.append_answer-2.new.out.items c.append_fixed-2.new.out.items c.append_fixed-3.new.out.items
    (codes "</td><td>") ((link_part partner (codes ".ack")) ++ ((link_part partner (codes ".box")) ++ (codes "</td></tr>\n")))
    c.in_ok-append_fixed-2.ensures (two c.append_fixed-2.new.out.items c.append_link.new.out.items c.append_fixed-3.new.out.items
    (link_part partner (codes ".ack")) ((link_part partner (codes ".box")) ++ (codes "</td></tr>\n"))
    c.in_ok-append_link.ensures (two c.append_link.new.out.items c.append_link-2.new.out.items c.append_fixed-3.new.out.items (link_part
    partner (codes ".box")) (codes "</td></tr>\n")
    c.in_ok-append_link-2.ensures adds)))))))
    c.append_fixed-3.ensures
