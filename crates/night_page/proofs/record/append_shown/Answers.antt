use Rattle.std.proofs.Common.{◌++◌, []}
use Rattle.std.specs.Prelude.{codes}
use Rattle.night_page.specs.Record.{clock_part}
use Rattle.night_page.specs.Tags.{tagged}
use Rattle.std.proofs.lemmas.Result.{on_ok_weaker}
use Rattle.night_page.proofs.Growing.{two}
use Rattle.night_page.proofs.record.append_shown.Goals as goal

pub returns : goal.returns
returns c =
    on_ok_weaker c.append_fixed.result (λ adds. two c.args.out.now.items c.append_sum.new.out.items c.append_fixed.new.out.items
    (tagged (codes "<footer>\n<p>Record ") c.args.shown.now.sum []) ((clock_part c.args.shown.now.clock ++ (codes
    "</p>\n</footer>\n"))) c.in_ok-append_sum.ensures
    (two c.append_sum.new.out.items c.append_clock.new.out.items c.append_fixed.new.out.items (clock_part c.args.shown.now.clock)
    (codes "</p>\n</footer>\n") c.in_ok-append_clock.ensures
    adds))
    c.append_fixed.ensures
