use Rattle.std.proofs.Common.{◌++◌, List, decimal, length}
use Rattle.std.specs.Prelude.{ℕ, codes}
use Rattle.std.specs.List.{flat_map}
use Rattle.night_search.specs.Lines.{read}
use Rattle.night_page.specs.Tags.{item}
use Rattle.std.proofs.lemmas.Result.{on_ok_weaker}
use Rattle.night_page.proofs.Growing.{two}
use Rattle.night_page.proofs.files.append_lines.Goals as goal

pub returns : goal.returns
returns c =
    let lines : List (List ℕ) = read c.args.lines.now in
    on_ok_weaker c.append_fixed-3.result (λ adds. two c.args.out.now.items c.append_fixed.new.out.items
    c.append_fixed-3.new.out.items (codes "<h2>Files of the day</h2>\n<details><summary>All (") ((decimal (length lines) ++
    (codes ")</summary>\n<ul>\n" ++ (flat_map item lines ++ (codes "</ul></details>\n"))))) c.in_ok-append_fixed.ensures
    (two c.append_fixed.new.out.items c.append_line_count.new.out.items c.append_fixed-3.new.out.items (decimal (length lines))
    ((codes ")</summary>\n<ul>\n" ++ (flat_map item lines ++ (codes "</ul></details>\n")))) c.in_ok-append_line_count.ensures
    (two c.append_line_count.new.out.items c.append_fixed-2.new.out.items c.append_fixed-3.new.out.items (codes
    ")</summary>\n<ul>\n") ((flat_map item lines ++ (codes "</ul></details>\n"))) c.in_ok-append_fixed-2.ensures
    (two c.append_fixed-2.new.out.items c.append_items.new.out.items c.append_fixed-3.new.out.items (flat_map item lines) (codes
    "</ul></details>\n") c.in_ok-append_items.ensures
    adds))))
    c.append_fixed-3.ensures
