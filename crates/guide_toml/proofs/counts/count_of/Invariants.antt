use Rattle.std.proofs.Common.{◌≡◌, ◌<◌, ◌^◌, drop}
use Rattle.guide_toml.specs.Counts.{count_from}
use Rattle.guide_toml.proofs.counts.count_of.Given as goal

abbrev pub invariant-loop-digit : goal.invariant-loop-digit
invariant-loop-digit l = record {
  fits : l.count < 2 ^ 32;
  rest : count_from l.count (drop l.digit-index l.digits) ≡ count_from 0 l.digits;
}
