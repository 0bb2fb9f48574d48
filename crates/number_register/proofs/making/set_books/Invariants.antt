use Rattle.std.proofs.Common.{◌≡◌, ◌++◌, drop, map}
use Rattle.number_register.specs.Fresh.{fresh_books}
use Rattle.number_register.proofs.making.set_books.Given as goal

abbrev pub invariant-loop-entry : goal.invariant-loop-entry
invariant-loop-entry l = l.all.items ++ map fresh_books (drop l.entry-index l.entries) ≡ map fresh_books l.entries
