use Rattle.std.proofs.Common.{◌++◌}
use Rattle.std.specs.Prelude.{codes}
use Rattle.std.proofs.lemmas.Result.{on_ok_weaker}
use Rattle.guide_page.proofs.Growing.{two}
use Rattle.guide_page.proofs.page.append_answers_head.Goals as goal

pub returns : goal.returns
returns c =
    on_ok_weaker c.append_fixed-2.result (λ adds. two c.args.out.now.items c.append_fixed.new.out.items c.append_fixed-2.new.out.items
    (codes "<h2>What is answered</h2>\n<p>Each of these samples breaks one rule alone.</p>\n<table>\n<thead><tr>") (codes
    "<th scope=\"col\">Sample</th><th scope=\"col\">What is wrong</th><th scope=\"col\">In the 999</th></tr></thead>\n<tbody>\n")
    c.in_ok-append_fixed.ensures adds)
    c.append_fixed-2.ensures
