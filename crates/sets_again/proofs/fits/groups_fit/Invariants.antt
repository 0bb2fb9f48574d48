use Rattle.std.proofs.Common.{◌≡◌, ◌&&◌, drop, map}
use Rattle.csv.specs.Records.{fields_of}
use Rattle.sets_again.specs.Fits.{groups_fit}
use Rattle.sets_again.proofs.fits.groups_fit.Given as goal

abbrev pub invariant-loop-i : goal.invariant-loop-i
invariant-loop-i l =
    (l.fit && groups_fit (drop l.i l.interchange.content.groups) (map (λ r. fields_of r.now) (drop l.at l.rows)))
    ≡ groups_fit l.interchange.content.groups (map (λ r. fields_of r.now) l.rows)
