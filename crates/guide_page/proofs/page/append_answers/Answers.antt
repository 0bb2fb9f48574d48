use Rattle.std.proofs.Common.{◌++◌}
use Rattle.std.specs.Prelude.{codes}
use Rattle.std.proofs.lemmas.Result.{on_ok_weaker}
use Rattle.guide_page.proofs.Growing.{two}
use Rattle.guide_page.specs.Page.{answer_row, answers_head}
use Rattle.guide_page.specs.Tags.{table_end}
use Rattle.std.specs.List.{flat_map}
use Rattle.guide_page.proofs.page.append_answers.Goals as goal

pub returns : goal.returns
returns c =
    on_ok_weaker c.append_table_end.result (λ adds. two c.args.out.now.items c.append_answers_head.new.out.items
    c.append_table_end.new.out.items answers_head ((flat_map answer_row c.args.answers.now) ++ table_end)
    c.in_ok-append_answers_head.ensures (two c.append_answers_head.new.out.items c.append_answer_rows.new.out.items
    c.append_table_end.new.out.items (flat_map answer_row c.args.answers.now) table_end
    c.in_ok-append_answer_rows.ensures adds))
    c.append_table_end.ensures
