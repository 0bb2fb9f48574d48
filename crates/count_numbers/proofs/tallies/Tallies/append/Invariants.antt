use Rattle.std.proofs.Common.{◌≡◌, map}
use Rattle.count_numbers.specs.Tally.{PartnerTally, joined}
use Rattle.count_numbers.proofs.tallies.Tallies.append.Given as goal

abbrev pub invariant-loop-tally : goal.invariant-loop-tally
invariant-loop-tally l = l.list.items ≡ map (λ (p : PartnerTally × PartnerTally). joined p.0 p.1) l.yielded
