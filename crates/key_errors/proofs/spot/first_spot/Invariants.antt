use Rattle.std.proofs.Common.{◌≡◌, drop, map}
use Rattle.key_errors.specs.Seen.{seen}
use Rattle.key_errors.specs.Spots as spots
use Rattle.key_errors.proofs.spot.first_spot.Given as goal

abbrev pub invariant-loop-i : goal.invariant-loop-i
invariant-loop-i l =
    spots.first_spot l.refused.why l.refused.key.now (map seen (drop l.i l.tables))
    ≡ spots.first_spot l.refused.why l.refused.key.now (map seen l.tables)
