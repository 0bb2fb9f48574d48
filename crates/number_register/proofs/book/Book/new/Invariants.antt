use Rattle.std.proofs.Common.{◌≡◌, None, replicate}
use Rattle.number_register.proofs.book.Book.new.Given as goal

abbrev pub invariant-loop : goal.invariant-loop
invariant-loop g l = l.keys.items ≡ replicate l.counter None
