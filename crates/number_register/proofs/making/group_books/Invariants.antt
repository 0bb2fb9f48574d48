use Rattle.std.proofs.Common.{◌≡◌, ◌++◌, drop, map}
use Rattle.number_register.specs.Fresh.{fresh_groups}
use Rattle.number_register.proofs.making.group_books.Given as goal

abbrev pub invariant-loop-entry : goal.invariant-loop-entry
invariant-loop-entry l = l.books ++ map fresh_groups (drop l.entry-index l.entries) ≡ map fresh_groups l.entries
