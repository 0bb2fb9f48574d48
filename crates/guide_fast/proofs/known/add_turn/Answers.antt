use Rattle.std.proofs.Common.{ap, sym, subst, ◌∙◌}
use Rattle.guide_tree.specs.Words.{view}
use Rattle.guide_fast.specs.declared.known.KnownTurn.{KnownTurn}
use Rattle.guide_fast.specs.IdNumber.{id_number}
use Rattle.guide_fast.specs.Ahead.{Adds, Any, IsTurnTo, first_or_again}
use Rattle.guide_fast.proofs.KnownStarts.{one_turn, no_turn}
use Rattle.guide_fast.proofs.known.add_turn.Goals as goal

pub returns-in_default : goal.returns-in_default
returns-in_default c =
    no_turn c.args.depth c.args.child c.args.again c.args.silent (view c.args.node.now) c.begin_of.result c.args.turns.now.items
    c.in_default.is c.begin_of.ensures

pub returns : goal.returns
returns c =
    let t = view c.args.node.now in
    let k : KnownTurn = record {
      number = c.id_number.result;
      into_loop = c.in-Some.start.into_loop;
      again = c.args.again;
      depth = c.args.depth;
      child = c.args.child;
      quiet = c.quiet_uses.result;
      slot = c.in-Some.start.slot;
    } in
    subst (Adds c.args.depth (IsTurnTo c.args.depth c.args.child c.args.again c.args.silent t) Any
    (first_or_again c.args.child c.args.again t) c.args.turns.now.items) (sym c.in_ok-push.ensures.items)
    (one_turn c.args.depth c.args.child c.args.again c.args.silent t c.in-Some.start c.id_number.result c.quiet_uses.result
    c.args.turns.now.items c.in-Some.ensures (c.id_number.ensures ∙ ap id_number c.as_slice.ensures) c.quiet_uses.ensures)
