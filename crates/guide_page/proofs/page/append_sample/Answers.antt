use Rattle.std.proofs.Common.{◌++◌}
use Rattle.std.specs.Prelude.{codes}
use Rattle.std.proofs.lemmas.Result.{on_ok_weaker}
use Rattle.guide_page.proofs.Growing.{two}
use Rattle.html_text.specs.Html.{html_bytes}
use Rattle.guide_page.proofs.page.append_sample.Goals as goal

pub returns : goal.returns
returns c =
    on_ok_weaker c.append_fixed-2.result (λ adds. two c.args.out.now.items c.append_fixed.new.out.items c.append_fixed-2.new.out.items
    (codes "<h2>A complete sample</h2>\n<pre>") ((html_bytes c.args.sample.now) ++ (codes "</pre>\n"))
    c.in_ok-append_fixed.ensures (two c.append_fixed.new.out.items c.append_lines.new.out.items c.append_fixed-2.new.out.items
    (html_bytes c.args.sample.now) (codes "</pre>\n")
    c.in_ok-append_lines.ensures adds))
    c.append_fixed-2.ensures
