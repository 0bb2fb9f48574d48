use Rattle.std.proofs.Common.{◌≡◌, vec_len}
use Rattle.trial_workers.proofs.recording.take_shares.Given as goal

abbrev pub invariant-loop-i : goal.invariant-loop-i
invariant-loop-i g l = (l.register ≡ l._i) × (vec_len l.shares ≡ l._i)
