use Rattle.std.proofs.Common.{◌≡◌, take}
use Rattle.guide_toml.proofs.tokens.texts_of.Given as goal

abbrev pub invariant-loop-token : goal.invariant-loop-token
invariant-loop-token l = l.texts.items ≡ take l.token-index l.tokens
