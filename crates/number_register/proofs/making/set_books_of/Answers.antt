use Rattle.std.proofs.Common.{rules, ◌≡◌, ◌++◌, ◌∷◌, []}
use Rattle.number_register.specs.Fresh.{fresh_sets}
use Rattle.number_register.proofs.Fill.{mapped_more}
use Rattle.number_register.proofs.making.set_books_of.Goals as goal

pub loop-k-preserved : goal.loop-k-preserved
loop-k-preserved c =
    let pushed : c.push.new.self ≡ c.loop-k.books ++ fresh_sets c.group.result ∷ [] = search rules in
    mapped_more fresh_sets c.args.interchange.now.content.groups c.loop-k.k c.group.result c.loop-k.books c.push.new.self c.group.ensures
    c.loop-k.invariant pushed
