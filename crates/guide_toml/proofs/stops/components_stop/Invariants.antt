use Rattle.std.proofs.Common.{◌≡◌, ◌+◌, ◌-◌, ◌≤◌, length, drop}
use Rattle.guide_toml.specs.ElementStops as stops
use Rattle.guide_toml.specs.Tokens.{token_groups}
use Rattle.guide_toml.proofs.stops.components_stop.Given as goal

abbrev pub invariant-loop-halt : goal.invariant-loop-halt
invariant-loop-halt l = record {
  within : l.from ≤ length l.tokens;
  counted : l.component ≤ l.from + 1;
  rest : stops.components_stop l.component (token_groups (drop l.from l.tokens)) ≡ stops.components_stop 1 (token_groups l.tokens);
}

abbrev pub decreases-loop-halt : goal.decreases-loop-halt
decreases-loop-halt l = length l.tokens - l.from
