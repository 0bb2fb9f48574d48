use Rattle.std.proofs.Common.{◌≡◌, ℕ, List, Bor, drop, map}
use Rattle.hub_kinds.specs.Words.{contains_text}
use Rattle.key_errors.proofs.key_tables.is_among.Given as goal

abbrev pub invariant-loop-own : goal.invariant-loop-own
invariant-loop-own l =
    contains_text (map (λ (key : Bor (List ℕ)). key.now) (drop l.own-index l.keys)) l.key
    ≡ contains_text (map (λ (key : Bor (List ℕ)). key.now) l.keys) l.key
