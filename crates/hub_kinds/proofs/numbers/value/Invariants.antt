use Rattle.std.proofs.Common.{◌≡◌, ◌^◌, ◌<◌, take}
use Rattle.hub_kinds.specs.Numbers.{value_of}
use Rattle.hub_kinds.proofs.numbers.value.Given as goal

-- the number of the digits so far, which has so many digits at most
abbrev pub invariant-loop-digit : goal.invariant-loop-digit
invariant-loop-digit l = (l.number ≡ value_of (take l.digit-index l.digits)) × (l.number < 10 ^ l.digit-index)
