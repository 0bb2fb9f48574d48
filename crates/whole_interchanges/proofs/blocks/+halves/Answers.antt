use Rattle.std.proofs.Common.{◌++◌, ℕ, List, sym, subst}
use Rattle.std.specs.List.{All}
use Rattle.std.proofs.lemmas.List.Elements.{All-append}
use Rattle.std.proofs.lemmas.Result.{IfOk-at_ok}
use Rattle.whole_interchanges.specs.Passing.{AreSearched}
use Rattle.whole_interchanges.specs.declared.passing.Searched.{Searched}
use Rattle.whole_interchanges.proofs.blocks.+halves.Goals as goal

pub returns : goal.returns
returns g t c =
    let read : List ℕ = c.args.read.now in
    let front = IfOk-at_ok (λ list. All (AreSearched read) list.items) c.in_ok-list.was c.join-first.ensures.first in
    let back = IfOk-at_ok (λ list. All (AreSearched read) list.items) c.in_ok-more.was c.join-first.ensures.second in
    subst (λ (xs : List Searched). All (AreSearched read) xs) (sym c.in_ok-append.ensures.items)
    (All-append (AreSearched read) c.in_ok-list.list.items c.in_ok-more.more.items front back)
