use Rattle.std.proofs.Common.{◌++◌}
use Rattle.std.specs.Prelude.{codes}
use Rattle.std.proofs.lemmas.Result.{on_ok_weaker}
use Rattle.guide_page.proofs.Growing.{two}
use Rattle.guide_page.specs.Rules.{pair_item, sequential_part}
use Rattle.guide_page.specs.Tags.{whole_list}
use Rattle.guide_page.proofs.rules.append_rule.Goals as goal

pub returns : goal.returns
returns c =
    on_ok_weaker c.append_sequential.result (λ adds. two c.args.out.now.items c.append_fixed.new.out.items
    c.append_sequential.new.out.items (codes "<h2>Levels (HL)</h2>\n") ((whole_list pair_item c.args.rule.now.pairs) ++ (sequential_part
    c.args.rule.now.sequential))
    c.in_ok-append_fixed.ensures (two c.append_fixed.new.out.items c.append_pairs.new.out.items c.append_sequential.new.out.items
    (whole_list pair_item c.args.rule.now.pairs) (sequential_part c.args.rule.now.sequential)
    c.in_ok-append_pairs.ensures adds))
    c.append_sequential.ensures
