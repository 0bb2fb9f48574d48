use Rattle.std.proofs.Common.{◌≡◌, ◌-◌, drop, length}
use Rattle.partner_setup.specs.SetupFaults.{twin_from}
use Rattle.partner_setup.proofs.Twins.{HasTold}
use Rattle.partner_setup.proofs.twice.first_twin.Given as goal

abbrev pub invariant-loop-count : goal.invariant-loop-count
invariant-loop-count g l = record {
  behind : HasTold g.K.Tells.tells l.behind (drop (length l.rows - l.count) l.rows);
  twin : l.twin ≡ twin_from g.K.Tells.tells (length l.rows - l.count) (drop (length l.rows - l.count) l.rows);
}
