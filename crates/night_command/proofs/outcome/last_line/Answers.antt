use Rattle.std.proofs.Common.{drop, get_or, [], ap, ◌∙◌}
use Rattle.night_command.proofs.Ending.{begins}
use Rattle.night_command.proofs.outcome.last_line.Goals as goal

pub loop-next-init : goal.loop-next-init
loop-next-init c =
    begins c.args.report.now c.next_or_empty-line.result.now c.into_iter-next-iterator.result
    (c.next_or_empty-line.ensures.value ∙ ap (λ parts. get_or parts 0 []) c.lines_of-parts.ensures)
    (c.into_iter-next-iterator.ensures.into_iter_gives ∙ c.next_or_empty-line.ensures.left ∙ ap (drop 1) c.lines_of-parts.ensures)
