use Rattle.std.proofs.Common.{◌≡◌, ◌+◌, drop}
use Rattle.std.specs.List.{position_or_len}
use Rattle.guide_toml.specs.Tokens.{is_semicolon}
use Rattle.guide_toml.proofs.tokens.first_semicolon.Given as goal

abbrev pub invariant-loop-i : goal.invariant-loop-i
invariant-loop-i l = l.i + position_or_len is_semicolon (drop l.i l.tokens) ≡ position_or_len is_semicolon l.tokens
