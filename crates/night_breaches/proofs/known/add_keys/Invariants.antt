use Rattle.std.proofs.Common.{◌≡◌, ℕ, List, Some, cond, take}
use Rattle.hub_kinds.specs.Words.{contains_text}
use Rattle.night_breaches.specs.Known.{night_in}
use Rattle.night_breaches.proofs.known.add_keys.Given as goal

abbrev pub invariant-loop-i : goal.invariant-loop-i
invariant-loop-i l = (q : List ℕ) → night_in l.nights q ≡ cond (contains_text (take l.i l.keys) q) (Some l.name) (night_in l.fn.nights q)
