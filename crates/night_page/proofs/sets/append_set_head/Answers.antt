use Rattle.std.proofs.Common.{◌++◌}
use Rattle.std.specs.Prelude.{codes}
use Rattle.night_page.specs.Page.{find_part, set_columns}
use Rattle.night_page.specs.Tags.{table_head}
use Rattle.std.proofs.lemmas.Result.{on_ok_weaker}
use Rattle.night_page.proofs.Growing.{two}
use Rattle.night_page.proofs.sets.append_set_head.Goals as goal

pub returns : goal.returns
returns c =
    on_ok_weaker c.append_table_head.result (λ adds. two c.args.out.now.items c.append_fixed.new.out.items
    c.append_table_head.new.out.items find_part ((codes "<table id=\"sets\">\n") ++ (table_head set_columns))
    c.in_ok-append_fixed.ensures (two c.append_fixed.new.out.items c.append_fixed-2.new.out.items c.append_table_head.new.out.items
    (codes "<table id=\"sets\">\n") (table_head set_columns)
    c.in_ok-append_fixed-2.ensures adds))
    c.append_table_head.ensures
