use Rattle.std.proofs.Common.{◌≡◌, map, take}
use Rattle.number_register.specs.Fresh.{fresh_sets}
use Rattle.number_register.proofs.making.set_books_of.Given as goal

abbrev pub invariant-loop-k : goal.invariant-loop-k
invariant-loop-k l = l.books ≡ map fresh_sets (take l.k l.interchange.content.groups)
