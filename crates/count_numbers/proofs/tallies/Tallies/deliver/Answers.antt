use Rattle.std.proofs.Common.{length, ap, arith, ◌∙◌}
use Rattle.std.proofs.lemmas.Result.{on_ok_weaker}
use Rattle.count_numbers.specs.Tally.{Delivered}
use Rattle.count_numbers.proofs.Counting.{counted}
use Rattle.count_numbers.proofs.tallies.Tallies.deliver.Goals as goal

pub returns-clause-counted : goal.returns-clause-counted
returns-clause-counted c =
    on_ok_weaker c.deliver.result (λ is n es was.
    counted n es (record { partner = c.args.partner; entry = Delivered c.args.key }) c.self.inside.list.items
    c.index_mut.result.now c.deliver.new.self
    (let few = c.requires in let same = ap length c.self.view_is in omega arith)
    (c.self.view_is ∙ was) c.index_mut.ensures.value is) c.deliver.ensures.counted
