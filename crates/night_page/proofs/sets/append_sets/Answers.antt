use Rattle.std.proofs.Common.{◌++◌, map, sym}
use Rattle.std.specs.Prelude.{codes}
use Rattle.csv.specs.Records.{fields_of}
use Rattle.std.specs.List.{flat_map}
use Rattle.night_page.specs.Page.{set_row_or_none, set_table, sets_head}
use Rattle.std.proofs.lemmas.Result.{on_ok_weaker}
use Rattle.night_page.proofs.Growing.{two}
use Rattle.night_page.proofs.sets.append_sets.Goals as goal

pub returns : goal.returns
returns c =
    let rows = map fields_of c.args.rows.now in
    let short = c.is_short-short.result in
    rw (sym c.is_short-short.ensures) (on_ok_weaker c.append_fixed.result (λ adds. two c.args.out.now.items
    c.append_sets_head.new.out.items c.append_fixed.new.out.items (sets_head short) (set_table ++ ((flat_map (set_row_or_none short)
    rows) ++ (codes "</tbody>\n</table>\n")))
    c.in_ok-append_sets_head.ensures (two c.append_sets_head.new.out.items c.append_set_head.new.out.items c.append_fixed.new.out.items
    set_table ((flat_map (set_row_or_none short) rows) ++ (codes "</tbody>\n</table>\n"))
    c.in_ok-append_set_head.ensures (two c.append_set_head.new.out.items c.append_set_rows.new.out.items c.append_fixed.new.out.items
    (flat_map (set_row_or_none short) rows) (codes "</tbody>\n</table>\n")
    c.in_ok-append_set_rows.ensures adds)))
    c.append_fixed.ensures)
