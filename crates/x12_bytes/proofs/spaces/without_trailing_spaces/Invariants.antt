use Rattle.std.proofs.Common.{ℕ, Bool, ◌≡◌, ◌+◌, ◌≤◌, ◌==◌, length, take}
use Rattle.std.specs.List.{suffix_len}
use Rattle.x12_bytes.proofs.spaces.without_trailing_spaces.Given as goal

abbrev pub invariant-loop-end : goal.invariant-loop-end
invariant-loop-end l =
    let p : ℕ → Bool = λ b. b == 32 in
    (l.end ≤ length l.text) × (l.end + suffix_len p l.text ≡ length l.text + suffix_len p (take l.end l.text))

abbrev pub decreases-loop-end : goal.decreases-loop-end
decreases-loop-end l = l.end
