use Rattle.std.proofs.Common.{◌++◌}
use Rattle.std.proofs.lemmas.Result.{on_ok_weaker}
use Rattle.guide_page.proofs.Growing.{two}
use Rattle.guide_page.specs.Tags.{cell, lines_cell, row_end, row_head}
use Rattle.guide_page.proofs.page.append_answer.Goals as goal

pub returns : goal.returns
returns c =
    let answer = c.args.answer.now in
    let named = c.append_name.new.out.items in
    let worded = c.append_lines_cell.new.out.items in
    let written = c.append_text_cell.new.out.items in
    let ended = c.append_row_end.new.out.items in
    on_ok_weaker c.append_row_end.result (λ adds. two c.args.out.now.items named ended (row_head answer.name)
    (lines_cell answer.words ++ (cell answer.lines ++ row_end)) c.in_ok-append_name.ensures
    (two named worded ended (lines_cell answer.words) (cell answer.lines ++ row_end) c.in_ok-append_lines_cell.ensures
    (two worded written ended (cell answer.lines) row_end c.in_ok-append_text_cell.ensures adds)))
    c.append_row_end.ensures
