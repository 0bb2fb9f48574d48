use Rattle.std.proofs.Common.{◌+◌, ◌*◌}
use Rattle.night_batches.proofs.closing.+halves.Given as goal

abbrev pub decreases-close_by : goal.decreases-close_by
decreases-close_by g l = 2 * l.threads + 1

abbrev pub decreases-front : goal.decreases-front
decreases-front g l = 2 * l.threads

abbrev pub decreases-back : goal.decreases-back
decreases-back g l = 2 * l.threads
