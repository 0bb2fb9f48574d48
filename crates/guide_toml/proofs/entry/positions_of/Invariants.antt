use Rattle.std.proofs.Common.{◌≡◌, ◌≤◌, ◌++◌, ◌-◌, drop, length, option_map}
use Rattle.guide_toml.specs.Entries.{positions_of}
use Rattle.guide_toml.proofs.entry.positions_of.Given as goal

abbrev pub invariant-loop-from : goal.invariant-loop-from
invariant-loop-from l = record {
  within : l.from ≤ length l.digits;
  rest : option_map (λ ps. l.positions.items ++ ps) (positions_of (drop l.from l.digits)) ≡ positions_of l.digits;
}

abbrev pub decreases-loop-from : goal.decreases-loop-from
decreases-loop-from l = length l.digits - l.from
