use Rattle.std.proofs.Common.{◌-◌, arith}
use Rattle.stream_read.proofs.Reading.{read_on}
use Rattle.stream_read.proofs.held.Held.fill.Goals as goal

pub returns-then-count-eq0-clause-read : goal.returns-then-count-eq0-clause-read
returns-then-count-eq0-clause-read g c = (
  c.args.window - c.loop-left.left,
  read_on (g.S.Source.remaining c.args.source.now) (g.S.Source.remaining c.loop-left.source) (g.S.Source.remaining c.take_some.new.source)
      c.args.self.now c.loop-left.self c.take_some.new.self (c.args.window - c.loop-left.left) c.in_ok-count.count
      (c.args.window - c.loop-left.left) (omega arith) c.loop-left.invariant.read c.in_ok-count.ensures.read,
  (λ no. (cc)),
  λ _. c.in_ok-count.ensures.end c.if-count-eq0.true,
)
