use Rattle.std.proofs.Common.{◌≡◌, ◌≤◌, ◌++◌, ◌-◌, length, drop, option_map}
use Rattle.guide_toml.specs.Tokens.{token_groups}
use Rattle.guide_toml.specs.ElementTexts.{components_of_tokens}
use Rattle.guide_toml.proofs.element_text.components_of.Given as goal

abbrev pub invariant-loop-component : goal.invariant-loop-component
invariant-loop-component l = record {
  within : l.from ≤ length l.tokens;
  rest : option_map (λ cs. l.components.items ++ cs)
      (components_of_tokens (token_groups (drop l.from l.tokens))) ≡ components_of_tokens (token_groups l.tokens);
}

abbrev pub decreases-loop-component : goal.decreases-loop-component
decreases-loop-component l = length l.tokens - l.from
