use Rattle.std.proofs.Common.{◌-◌, sym, ap, ◌∙◌, arith}
use Rattle.guide_tree.specs.Words.{nodes_view}
use Rattle.setup_errors.specs.Search.{numbered_found}
use Rattle.setup_errors.proofs.Numbers.{at_place, none_below}
use Rattle.setup_errors.proofs.nodes.node_at.Goals as goal

pub returns-then-number-eq0 : goal.returns-then-number-eq0
returns-then-number-eq0 c = sym (none_below 1 c.args.number (nodes_view c.args.nodes.now) (omega arith))

pub returns-in-At : goal.returns-in-At
returns-in-At c =
    let e = at_place 1 (nodes_view c.args.nodes.now) (c.args.number - 1) c.args.number (omega arith) in
    sym (e ∙ ap (numbered_found c.args.number) (sym c.in-At.ensures))

pub returns-in-Behind : goal.returns-in-Behind
returns-in-Behind c =
    let e = at_place 1 (nodes_view c.args.nodes.now) (c.args.number - 1) c.args.number (omega arith) in
    sym (e ∙ ap (numbered_found c.args.number) (sym c.in-Behind.ensures))
