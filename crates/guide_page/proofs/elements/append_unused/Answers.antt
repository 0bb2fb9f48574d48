use Rattle.std.proofs.Common.{◌++◌, []}
use Rattle.std.specs.Prelude.{codes, decimal}
use Rattle.std.specs.List.{flat_map}
use Rattle.std.proofs.lemmas.Result.{on_ok_weaker}
use Rattle.guide_page.proofs.Growing.{two}
use Rattle.guide_page.specs.Named.{named_code}
use Rattle.guide_page.proofs.elements.append_unused.Goals as goal

pub returns : goal.returns
returns c =
    on_ok_weaker c.append_named_codes.result (λ adds. (two c.args.out.now.items c.append_fixed.new.out.items
    c.append_named_codes.new.out.items (codes "<br>not used: ") (flat_map (named_code c.args.names.now c.args.reference.now)
    c.args.codes.now)
    c.in_ok-append_fixed.ensures adds))
    c.append_named_codes.ensures
