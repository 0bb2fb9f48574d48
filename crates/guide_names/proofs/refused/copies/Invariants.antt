use Rattle.std.proofs.Common.{◌≡◌, ◌++◌, drop, map}
use Rattle.guide_names.proofs.refused.copies.Given as goal

abbrev pub invariant-loop-key : goal.invariant-loop-key
invariant-loop-key l = l.texts.items ++ map (λ k. k.now) (drop l.key-index l.keys) ≡ map (λ k. k.now) l.keys
