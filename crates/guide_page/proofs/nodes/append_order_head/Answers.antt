use Rattle.std.proofs.Common.{◌++◌}
use Rattle.std.specs.Prelude.{codes}
use Rattle.std.proofs.lemmas.Result.{on_ok_weaker}
use Rattle.guide_page.proofs.Growing.{two}
use Rattle.guide_page.proofs.nodes.append_order_head.Goals as goal

pub returns : goal.returns
returns c =
    on_ok_weaker c.append_fixed-2.result (λ adds. two c.args.out.now.items c.append_fixed.new.out.items c.append_fixed-2.new.out.items
    (codes "<h2>Segments in their order</h2>\n<table>\n<thead><tr><th scope=\"col\">Segment</th><th scope=\"col\">Kind</th>") (codes
    "<th scope=\"col\">Use</th><th scope=\"col\">Times</th></tr></thead>\n<tbody>\n")
    c.in_ok-append_fixed.ensures adds)
    c.append_fixed-2.ensures
