use Rattle.std.proofs.Common.{◌≡◌, drop}
use Rattle.std.specs.List.{list_all}
use Rattle.guide_toml.specs.Tokens.{is_code}
use Rattle.guide_toml.proofs.tokens.are_codes.Given as goal

abbrev pub invariant-loop-token : goal.invariant-loop-token
invariant-loop-token l = list_all is_code (drop l.token-index l.tokens) ≡ list_all is_code l.tokens
