use Rattle.std.proofs.Common.{◌≡◌, drop, nat_eq, not}
use Rattle.std.specs.List.{list_all}
use Rattle.whole_interchanges.proofs.begin.holds_none.Given as goal

abbrev pub invariant-loop-b : goal.invariant-loop-b
invariant-loop-b l =
    list_all (λ b. not (nat_eq b l.element)) (drop l.b-index l.field) ≡ list_all (λ b. not (nat_eq b l.element)) l.field
