use Rattle.std.proofs.Common.{length, ap, arith, ◌∙◌}
use Rattle.count_numbers.specs.Tally.{Acknowledged}
use Rattle.count_numbers.proofs.Counting.{counted}
use Rattle.count_numbers.proofs.tallies.Tallies.acknowledge.Goals as goal

pub returns : goal.returns
returns c n es was =
    counted n es (record { partner = c.args.partner; entry = Acknowledged c.args.has_group }) c.self.inside.list.items
    c.index_mut.result.now c.acknowledge.new.self
    (let few = c.requires in let same = ap length c.self.view_is in omega arith)
    (c.self.view_is ∙ was) c.index_mut.ensures.value c.acknowledge.ensures
