use Rattle.std.proofs.Common.{◌++◌}
use Rattle.std.specs.Prelude.{codes}
use Rattle.std.proofs.lemmas.Result.{on_ok_weaker}
use Rattle.guide_page.proofs.Growing.{two}
use Rattle.guide_page.proofs.sections.append_element_head.Goals as goal

pub returns : goal.returns
returns c =
    on_ok_weaker c.append_fixed-3.result (λ adds. two c.args.out.now.items c.append_fixed.new.out.items c.append_fixed-3.new.out.items
    (codes "<table>\n<thead><tr><th scope=\"col\">Element</th><th scope=\"col\">Number</th><th scope=\"col\">Use</th>") ((codes
    "<th scope=\"col\">Type</th><th scope=\"col\">Length</th><th scope=\"col\">Times</th>") ++ (codes
    "<th scope=\"col\">Values</th></tr></thead>\n<tbody>\n"))
    c.in_ok-append_fixed.ensures (two c.append_fixed.new.out.items c.append_fixed-2.new.out.items c.append_fixed-3.new.out.items (codes
    "<th scope=\"col\">Type</th><th scope=\"col\">Length</th><th scope=\"col\">Times</th>") (codes
    "<th scope=\"col\">Values</th></tr></thead>\n<tbody>\n")
    c.in_ok-append_fixed-2.ensures adds))
    c.append_fixed-3.ensures
