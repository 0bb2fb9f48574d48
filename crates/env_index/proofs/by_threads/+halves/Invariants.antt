use Rattle.std.proofs.Common.{◌+◌, ◌*◌}
use Rattle.env_index.proofs.by_threads.+halves.Given as goal

abbrev pub decreases-read_share_by : goal.decreases-read_share_by
decreases-read_share_by g l = 2 * l.threads + 1

abbrev pub decreases-front : goal.decreases-front
decreases-front g l = 2 * l.threads

abbrev pub decreases-back : goal.decreases-back
decreases-back g l = 2 * l.threads
