use Rattle.std.proofs.Common.{◌≡◌, ◌++◌, drop, option_map}
use Rattle.record_chain.specs.Breaks.{breaks_after}
use Rattle.record_chain.proofs.chain.chain_breaks.Given as goal

abbrev pub invariant-loop-i : goal.invariant-loop-i
invariant-loop-i l =
    l.found.items ++ breaks_after (option_map (λ night. night.now) l.last) (drop l.i l.nights)
    ≡ breaks_after (option_map (λ night. night.now) l.before) l.nights
