use Rattle.std.proofs.Common.{◌+◌, ◌*◌}
use Rattle.night_report.proofs.halving.+halves.Given as goal

abbrev pub decreases-report_by : goal.decreases-report_by
decreases-report_by g l = 2 * l.threads + 1

abbrev pub decreases-front : goal.decreases-front
decreases-front g l = 2 * l.threads

abbrev pub decreases-back : goal.decreases-back
decreases-back g l = 2 * l.threads
