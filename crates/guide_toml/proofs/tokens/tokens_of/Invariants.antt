use Rattle.std.proofs.Common.{◌≡◌, ◌≤◌, ◌++◌, ◌-◌, length, drop}
use Rattle.guide_toml.specs.Tokens.{tokens_of}
use Rattle.guide_toml.proofs.tokens.tokens_of.Given as goal

abbrev pub invariant-loop-tokens : goal.invariant-loop-tokens
invariant-loop-tokens l = record {
  within : l.from ≤ length l.text;
  rest : l.tokens.items ++ tokens_of (drop l.from l.text) ≡ tokens_of l.text;
}

abbrev pub decreases-loop-tokens : goal.decreases-loop-tokens
decreases-loop-tokens l = length l.text - l.from
