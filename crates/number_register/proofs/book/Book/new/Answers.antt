use Rattle.std.proofs.Common.{ap, sym, ◌∙◌}
use Rattle.std.specs.Prelude.{slice_get}
use Rattle.number_register.proofs.FirstKeys.{none_there}
use Rattle.number_register.proofs.book.Book.new.Goals as goal

pub invariant_of-result : goal.invariant_of-result
invariant_of-result g c = (
  λ i a is. absurd (none_there c.loop.counter i a (ap (λ l. slice_get l i) (sym c.loop.invariant) ∙ is)),
  λ i j a b low is other. absurd (none_there c.loop.counter i a (ap (λ l. slice_get l i) (sym c.loop.invariant) ∙ is)),
)
