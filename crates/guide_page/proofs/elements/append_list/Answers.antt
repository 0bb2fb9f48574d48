use Rattle.std.proofs.Common.{◌++◌, []}
use Rattle.std.specs.Prelude.{codes, decimal}
use Rattle.std.specs.List.{flat_map}
use Rattle.std.proofs.lemmas.Result.{on_ok_weaker}
use Rattle.guide_page.proofs.Growing.{two}
use Rattle.guide_page.specs.Named.{named_code}
use Rattle.guide_page.specs.Elements.{unused_part}
use Rattle.guide_page.proofs.elements.append_list.Goals as goal

pub returns : goal.returns
returns c =
    on_ok_weaker c.append_unused_codes.result (λ adds. (two c.args.out.now.items c.append_used_codes.new.out.items
    c.append_unused_codes.new.out.items (flat_map (named_code c.args.names.now c.args.reference.now) c.args.list.now.used) (unused_part
    c.args.names.now c.args.reference.now c.args.list.now.unused)
    c.in_ok-append_used_codes.ensures adds))
    c.append_unused_codes.ensures
