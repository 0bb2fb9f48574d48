use Rattle.std.proofs.Common.{◌≡◌, ℕ, ◌<◌, get_or}
use Rattle.std.specs.Prelude.{true}
use Rattle.memchr.specs.Find.{is_byte}
use Rattle.env_marks.proofs.lex.find_short.Given as goal

-- it isn't among the bytes that were looked at
abbrev pub invariant-loop-at : goal.invariant-loop-at
invariant-loop-at l = (j : ℕ) → j < l.at → is_byte l.byte (get_or l.bytes j 0) ≡ true → ⊥
