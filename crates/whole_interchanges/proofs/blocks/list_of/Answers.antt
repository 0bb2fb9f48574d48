use Rattle.std.proofs.Common.{◌++◌, ◌∷◌, [], List, sym, subst}
use Rattle.std.specs.List.{All}
use Rattle.std.proofs.lemmas.List.Elements.{All-push}
use Rattle.whole_interchanges.specs.Passing.{AreSearched}
use Rattle.whole_interchanges.specs.declared.passing.Searched.{Searched}
use Rattle.whole_interchanges.proofs.blocks.list_of.Goals as goal

pub search_to-requires-clause-searched : goal.search_to-requires-clause-searched
search_to-requires-clause-searched c = c.not_searched.ensures c.args.read.now

pub loop-k-preserved : goal.loop-k-preserved
loop-k-preserved c =
    subst (λ (xs : List Searched). All (AreSearched c.args.read.now) xs) (sym c.in_ok-push.ensures.items)
    (All-push (AreSearched c.args.read.now) c.loop-k.list.items c.search_to.result c.loop-k.invariant c.search_to.ensures.searched)
