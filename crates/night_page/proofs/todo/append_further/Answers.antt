use Rattle.std.specs.Prelude.{◌++◌, codes, decimal}
use Rattle.std.proofs.lemmas.Result.{on_ok_weaker}
use Rattle.night_page.proofs.Growing.{two}
use Rattle.night_page.proofs.todo.append_further.Goals as goal

pub returns : goal.returns
returns c =
    on_ok_weaker c.append_fixed-2.result (λ adds. two c.args.out.now.items c.append_fixed.new.out.items c.append_fixed-2.new.out.items
    (codes "<p>Further causes: ") (decimal c.args.count ++ codes "</p>\n") c.in_ok-append_fixed.ensures
    (two c.append_fixed.new.out.items c.append_number.new.out.items c.append_fixed-2.new.out.items (decimal c.args.count) (codes "</p>\n")
    c.in_ok-append_number.ensures adds))
    c.append_fixed-2.ensures
