use Rattle.std.proofs.Common.{◌≡◌, ◌+◌, drop}
use Rattle.std.specs.List.{prefix_len}
use Rattle.guide_toml.specs.Tokens.{is_code}
use Rattle.guide_toml.proofs.tokens.code_count.Given as goal

abbrev pub invariant-loop-i : goal.invariant-loop-i
invariant-loop-i l = l.i + prefix_len is_code (drop l.i l.tokens) ≡ prefix_len is_code l.tokens
