use Rattle.std.proofs.Common.{◌∙◌, ◌++◌, List, ap, map}
use Rattle.std.specs.Prelude.{ℕ, Bool, codes}
use Rattle.csv.specs.Records.{fields_of}
use Rattle.std.specs.List.{flat_map}
use Rattle.std.proofs.Common.{length, take}
use Rattle.night_search.specs.Lines.{read}
use Rattle.night_page.specs.Files.{aside_part}
use Rattle.night_page.specs.Inner.{inner_part}
use Rattle.night_page.specs.Page.{is_calm, name_part, none_part, others_part, outside_part}
use Rattle.std.proofs.lemmas.Result.{on_ok_weaker}
use Rattle.night_page.proofs.Growing.{two}
use Rattle.night_page.proofs.todo.append_todo.Goals as goal

pub returns : goal.returns
returns c =
    let rows = map fields_of c.args.rows.now in
    let causes = c.args.causes.now in
    let inside : Bool = c.args.inside in
    let lines : List (List ℕ) = read c.args.lines.now in
    let inner : List (List ℕ) = c.args.inner.now in
    let calm : Bool = is_calm inside lines inner in
    let shown : List ℕ = flat_map (name_part rows) (take 100 causes) in
    let others : List ℕ = others_part (length causes) in
    on_ok_weaker c.append_others.result (λ adds. two c.args.out.now.items c.append_fixed.new.out.items c.append_others.new.out.items
    (codes "<h2>To do at the hub</h2>\n")
    (aside_part lines ++ (inner_part inner ++ (outside_part inside ++ (none_part calm causes ++ (shown ++ others)))))
    c.in_ok-append_fixed.ensures (two c.append_fixed.new.out.items c.append_aside.new.out.items c.append_others.new.out.items
    (aside_part lines) (inner_part inner ++ (outside_part inside ++ (none_part calm causes ++ (shown ++ others))))
    c.in_ok-append_aside.ensures (two c.append_aside.new.out.items c.append_inner.new.out.items c.append_others.new.out.items
    (inner_part inner) (outside_part inside ++ (none_part calm causes ++ (shown ++ others)))
    c.in_ok-append_inner.ensures (two c.append_inner.new.out.items c.append_outside.new.out.items c.append_others.new.out.items
    (outside_part inside) (none_part calm causes ++ (shown ++ others))
    c.in_ok-append_outside.ensures (two c.append_outside.new.out.items c.append_none.new.out.items c.append_others.new.out.items
    (none_part calm causes) (shown ++ others)
    (c.in_ok-append_none.ensures ∙ ap (λ (b : Bool). c.append_outside.new.out.items ++ none_part b causes) c.is_calm.ensures)
    (two c.append_none.new.out.items c.append_shown.new.out.items c.append_others.new.out.items shown others
    c.in_ok-append_shown.ensures adds))))))
    c.append_others.ensures
