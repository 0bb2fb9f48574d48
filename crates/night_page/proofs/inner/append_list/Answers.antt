use Rattle.std.proofs.Common.{◌++◌, List, decimal, length}
use Rattle.std.specs.Prelude.{ℕ, codes}
use Rattle.std.specs.List.{flat_map}
use Rattle.night_page.specs.Tags.{item}
use Rattle.std.proofs.lemmas.Result.{on_ok_weaker}
use Rattle.night_page.proofs.Growing.{two}
use Rattle.night_page.proofs.inner.append_list.Goals as goal

pub returns : goal.returns
returns c =
    let lines : List (List ℕ) = c.args.lines.now in
    let head : List ℕ = codes
    "<details class=\"todo\"><summary>Refused interchanges that took the headers after them: ask for what these began (" in
    let last : List ℕ = codes "</ul></details>\n" in
    let items : List ℕ = flat_map item lines in
    let between : List ℕ = codes ")</summary>\n<ul>\n" in
    on_ok_weaker c.append_fixed-3.result (λ adds. two c.args.out.now.items c.append_fixed.new.out.items
    c.append_fixed-3.new.out.items head (decimal (length lines) ++ (between ++ (items ++ last)))
    c.in_ok-append_fixed.ensures
    (two c.append_fixed.new.out.items c.append_number.new.out.items c.append_fixed-3.new.out.items (decimal (length lines))
    (between ++ (items ++ last)) c.in_ok-append_number.ensures
    (two c.append_number.new.out.items c.append_fixed-2.new.out.items c.append_fixed-3.new.out.items between (items ++ last)
    c.in_ok-append_fixed-2.ensures
    (two c.append_fixed-2.new.out.items c.append_items.new.out.items c.append_fixed-3.new.out.items items last
    c.in_ok-append_items.ensures adds))))
    c.append_fixed-3.ensures
