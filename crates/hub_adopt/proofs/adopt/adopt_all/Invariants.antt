use Rattle.hub_folder.specs.Older.{map_now}
use Rattle.hub_adopt.specs.Adopt.{AreAdopted}
use Rattle.hub_adopt.proofs.adopt.adopt_all.Given as goal

abbrev pub invariant-loop-i : goal.invariant-loop-i
invariant-loop-i g l =
    AreAdopted l.adoption (map_now l.order) l.i (g.S.Shelf.place l.fn.shelf) (g.S.Shelf.place l.shelf)
