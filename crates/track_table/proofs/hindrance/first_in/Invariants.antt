use Rattle.std.proofs.Common.{◌≡◌, ◌+◌, ◌-◌, ◌≤◌, take}
use Rattle.track_table.specs.Hindrance.{first_in}
use Rattle.track_table.proofs.hindrance.first_in.Given as goal

abbrev pub invariant-loop-count : goal.invariant-loop-count
invariant-loop-count l = record {
  found : first_in l.from l.to (l.count + 1) (take (l.most - l.count) l.left) ≡ first_in l.from l.to 1 (take l.most l.fn.segments);
  few : l.count ≤ l.most;
}
