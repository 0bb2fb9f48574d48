use Rattle.guide_tree.specs.Words.{guide_of}
use Rattle.std.proofs.Common.{[]}
use Rattle.page_command.specs.Samples.{AddsAnswers}
use Rattle.page_command.proofs.answers.push_answers.Given as goal

abbrev pub invariant-loop-number : goal.invariant-loop-number
invariant-loop-number l = AddsAnswers l.names (guide_of l.rules.guide) l.rules.rules 0 l.number [] l.answers.items
