use Rattle.std.proofs.Common.{◌+◌, ◌*◌}
use Rattle.set_answers.proofs.halving.+halves.Given as goal

abbrev pub decreases-answer_by : goal.decreases-answer_by
decreases-answer_by g l = 2 * l.threads + 1

abbrev pub decreases-front : goal.decreases-front
decreases-front g l = 2 * l.threads

abbrev pub decreases-back : goal.decreases-back
decreases-back g l = 2 * l.threads
