use Rattle.std.proofs.Common.{take}
use Rattle.night_shelf.specs.Shelf.{ArePut, Changes}
use Rattle.night_shelf.proofs.keeping.put_all.Given as goal

abbrev pub invariant-loop-i : goal.invariant-loop-i
invariant-loop-i g l = Changes (ArePut (take l.i l.files)) (g.S.Shelf.place l.fn.shelf) (g.S.Shelf.place l.shelf)
