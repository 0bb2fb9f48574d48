use Rattle.std.proofs.Common.{[], ◌+◌, arith}
use Rattle.guide_tree.specs.Words.{guide_of}
use Rattle.page_command.proofs.Answering.{all_answers, more_answers}
use Rattle.page_command.proofs.answers.push_answers.Goals as goal

pub loop-number-preserved : goal.loop-number-preserved
loop-number-preserved c =
    more_answers c.args.names.now (guide_of c.args.rules.now.guide) c.args.rules.now.rules 0 c.loop-number.number
    (c.loop-number.number + 1) []
    c.loop-number.answers.items c.push_answer.new.answers.items c.loop-number.invariant c.in_ok-push_answer.ensures

pub returns : goal.returns
returns c =
    all_answers c.args.names.now (guide_of c.args.rules.now.guide) c.args.rules.now.rules c.loop-number.number c.loop-number.answers.items
    (omega (arith, c.loop-number.auto.number-end, c.count-number-end.ensures)) c.loop-number.invariant
