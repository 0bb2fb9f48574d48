use Rattle.std.proofs.Common.{◌≡◌, ◌++◌, drop, flat_map, map}
use Rattle.key_errors.specs.KeysSaid.{key_said}
use Rattle.key_errors.specs.Seen.{seen}
use Rattle.key_errors.proofs.keys_said.push_own_keys.Given as goal

abbrev pub invariant-loop-key : goal.invariant-loop-key
invariant-loop-key l =
    l.found.items ++ flat_map (key_said (seen l.spot)) (map (λ key. key.now) (drop l.key-index l.keys))
    ≡ l.initial.found.items ++ flat_map (key_said (seen l.spot)) (map (λ key. key.now) l.keys)
