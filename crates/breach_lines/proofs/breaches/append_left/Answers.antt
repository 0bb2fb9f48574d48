use Rattle.std.proofs.Common.{◌++◌}
use Rattle.std.specs.Prelude.{codes}
use Rattle.std.proofs.lemmas.Result.{on_ok_weaker}
use Rattle.breach_lines.specs.Lines.{number_words}
use Rattle.breach_lines.proofs.Chain.{three}
use Rattle.breach_lines.proofs.breaches.append_left.Goals as goal

pub returns : goal.returns
returns c =
    let b = c.args.breach.now in
    on_ok_weaker c.append_name-2.result
    (three c.args.out.now.items c.append_name.new.out.items c.append_numbers.new.out.items c.append_name-2.new.out.items
    (codes ", and night " ++ b.earlier) (codes " left " ++ number_words b.left) (codes " to " ++ b.was) c.in_ok-append_name.ensures
    c.in_ok-append_numbers.ensures)
    c.append_name-2.ensures
