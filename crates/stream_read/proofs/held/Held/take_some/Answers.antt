use Rattle.std.proofs.Common.{◌≤◌, ◌+◌, length, take, ◌∙◌, subst, rules}
use Rattle.stream_read.specs.Held.{HasRead, HeldValue}
use Rattle.stream_read.proofs.Reading.{held, read_more}
use Rattle.stream_read.proofs.held.Held.take_some.Goals as goal

pub returns-clause-read : goal.returns-clause-read
returns-clause-read g c =
    let front = c.in_ok-count.ensures.front ∙ c.in_ok-make_room.ensures.front in
    let fits : c.self.inside.filled + c.in_ok-count.count ≤ length c.read_behind.new.bytes.items = search rules in
    let read = read_more (g.S.Source.remaining c.args.source.now) (g.S.Source.remaining c.read_behind.new.source)
    c.self.inside.bytes.items c.read_behind.new.bytes.items c.self.inside.filled c.in_ok-count.count c.self.inside.total
    front fits c.in_ok-count.ensures.read in
    subst (λ (v : HeldValue). HasRead (g.S.Source.remaining c.args.source.now) (g.S.Source.remaining c.read_behind.new.source) v
    (held (take (c.self.inside.filled + c.in_ok-count.count) c.read_behind.new.bytes.items) (c.self.inside.total + c.in_ok-count.count))
    c.in_ok-count.count) c.self.view_is read
