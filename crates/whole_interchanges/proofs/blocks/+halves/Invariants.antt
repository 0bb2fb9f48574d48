use Rattle.std.proofs.Common.{◌+◌, ◌*◌}
use Rattle.whole_interchanges.proofs.blocks.+halves.Given as goal

abbrev pub decreases-search_by : goal.decreases-search_by
decreases-search_by g l = 2 * l.threads + 1

abbrev pub decreases-front : goal.decreases-front
decreases-front g l = 2 * l.threads

abbrev pub decreases-back : goal.decreases-back
decreases-back g l = 2 * l.threads
