use Rattle.std.proofs.Common.{◌≡◌, drop, map}
use Rattle.csv.specs.Records.{fields_of}
use Rattle.sets_again.specs.Fits.{sets_fit}
use Rattle.sets_again.proofs.fits.sets_fit.Given as goal

abbrev pub invariant-loop-i : goal.invariant-loop-i
invariant-loop-i l =
    sets_fit l.number (drop l.i l.group.sets) (map (λ r. fields_of r.now) (drop l.i l.rows))
    ≡ sets_fit l.number l.group.sets (map (λ r. fields_of r.now) l.rows)
