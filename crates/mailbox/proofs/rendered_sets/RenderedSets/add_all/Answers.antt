use Rattle.std.proofs.Common.{◌≡◌, ◌+◌, length, rules}
use Rattle.mailbox.proofs.WrittenSets.{rows_counted}
use Rattle.mailbox.proofs.rendered_sets.RenderedSets.add_all.Goals as goal

pub invariant_of-self-in-Some : goal.invariant_of-self-in-Some
invariant_of-self-in-Some g c =
    let sum : c.in-Some.all ≡ c.self.inside.count + length c.args.sets.now = search rules in
    rows_counted c.self.inside.rows.items c.in_ok-rows-in-Some.rows.items c.append.new.self.items c.args.partner.now c.self.inside.count
    c.args.sets.now c.self.inside.count c.in-Some.all c.self.invariant sum c.in_ok-rows-in-Some.ensures
    c.in_ok-append-in-Some.ensures.items
