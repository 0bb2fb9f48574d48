use Rattle.std.proofs.Common.{◌++◌, List, decimal}
use Rattle.std.specs.Prelude.{ℕ, codes}
use Rattle.std.specs.List.{count_by, flat_map}
use Rattle.night_search.specs.Lines.{read}
use Rattle.night_page.specs.Files.{is_short, short_item}
use Rattle.std.proofs.lemmas.Result.{on_ok_weaker}
use Rattle.night_page.proofs.Growing.{two}
use Rattle.night_page.proofs.files.append_short.Goals as goal

pub returns : goal.returns
returns c =
    let lines : List (List ℕ) = read c.args.lines.now in
    on_ok_weaker c.append_fixed-3.result (λ adds. two c.args.out.now.items c.append_fixed.new.out.items
    c.append_fixed-3.new.out.items (codes
    "<details class=\"todo\"><summary>Files that are set aside, or that aren't whole: see each line (") ((decimal (count_by
    is_short lines) ++ (codes ")</summary>\n<ul>\n" ++ (flat_map short_item lines ++ (codes "</ul></details>\n")))))
    c.in_ok-append_fixed.ensures
    (two c.append_fixed.new.out.items c.append_short_count.new.out.items c.append_fixed-3.new.out.items (decimal (count_by is_short
    lines)) ((codes ")</summary>\n<ul>\n" ++ (flat_map short_item lines ++ (codes "</ul></details>\n"))))
    c.in_ok-append_short_count.ensures
    (two c.append_short_count.new.out.items c.append_fixed-2.new.out.items c.append_fixed-3.new.out.items (codes
    ")</summary>\n<ul>\n") ((flat_map short_item lines ++ (codes "</ul></details>\n"))) c.in_ok-append_fixed-2.ensures
    (two c.append_fixed-2.new.out.items c.append_short_items.new.out.items c.append_fixed-3.new.out.items (flat_map short_item
    lines) (codes "</ul></details>\n") c.in_ok-append_short_items.ensures
    adds))))
    c.append_fixed-3.ensures
