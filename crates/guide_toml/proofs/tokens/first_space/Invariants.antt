use Rattle.std.proofs.Common.{◌≡◌, ◌+◌, drop}
use Rattle.std.specs.List.{position_or_len}
use Rattle.guide_toml.specs.Tokens.{is_space}
use Rattle.guide_toml.proofs.tokens.first_space.Given as goal

abbrev pub invariant-loop-i : goal.invariant-loop-i
invariant-loop-i l = l.i + position_or_len is_space (drop l.i l.text) ≡ position_or_len is_space l.text
