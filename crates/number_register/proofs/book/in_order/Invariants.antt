use Rattle.std.proofs.Common.{◌≡◌, take}
use Rattle.std.specs.BTreeMap.{get}
use Rattle.number_register.specs.First.{first_of}
use Rattle.number_register.proofs.book.in_order.Given as goal

abbrev pub invariant-loop-position : goal.invariant-loop-position
invariant-loop-position g l = (q : g.row.K.Denot) → get g.K.Ord.cmp l.least q ≡ first_of g.K.Ord.cmp (take l.position l.keys) q
