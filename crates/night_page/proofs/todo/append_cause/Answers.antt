use Rattle.std.proofs.Common.{◌++◌, List, map}
use Rattle.std.specs.Prelude.{ℕ, codes}
use Rattle.csv.specs.Records.{fields_of}
use Rattle.std.specs.List.{flat_map}
use Rattle.std.proofs.Common.{decimal}
use Rattle.std.specs.List.{count_by}
use Rattle.night_page.specs.Causes.{has_cause}
use Rattle.night_page.specs.Page.{item_or_none}
use Rattle.night_page.specs.Tags.{tagged}
use Rattle.std.proofs.lemmas.Result.{on_ok_weaker}
use Rattle.night_page.proofs.Growing.{two}
use Rattle.night_page.proofs.todo.append_cause.Goals as goal

pub returns : goal.returns
returns c =
    let rows = map fields_of c.args.rows.now in
    let cause : List ℕ = c.args.cause.now in
    on_ok_weaker c.append_fixed-2.result (λ adds. two c.args.out.now.items c.append_tagged.new.out.items c.append_fixed-2.new.out.items
    (tagged (codes "<details class=\"todo\"><summary>") cause (codes " (")) ((decimal (count_by (has_cause cause) rows)) ++ ((codes
    ")</summary>\n<ul>\n") ++ ((flat_map (item_or_none cause) rows) ++ (codes "</ul></details>\n"))))
    c.in_ok-append_tagged.ensures (two c.append_tagged.new.out.items c.append_row_count.new.out.items c.append_fixed-2.new.out.items
    (decimal (count_by (has_cause cause) rows)) ((codes ")</summary>\n<ul>\n") ++ ((flat_map (item_or_none cause) rows) ++ (codes
    "</ul></details>\n")))
    c.in_ok-append_row_count.ensures (two c.append_row_count.new.out.items c.append_fixed.new.out.items c.append_fixed-2.new.out.items
    (codes ")</summary>\n<ul>\n") ((flat_map (item_or_none cause) rows) ++ (codes "</ul></details>\n"))
    c.in_ok-append_fixed.ensures (two c.append_fixed.new.out.items c.append_items.new.out.items c.append_fixed-2.new.out.items (flat_map
    (item_or_none cause) rows) (codes "</ul></details>\n")
    c.in_ok-append_items.ensures adds))))
    c.append_fixed-2.ensures
