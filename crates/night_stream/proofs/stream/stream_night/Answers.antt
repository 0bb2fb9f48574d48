use Rattle.std.proofs.Common.{◌≤◌, ℕ, sym, subst, rules}
use Rattle.night_stream.proofs.Steps.{not_too_long, read_more, too_long}
use Rattle.night_stream.proofs.stream.stream_night.Goals as goal

pub returns-in_err-read_on-clause-long : goal.returns-in_err-read_on-clause-long
returns-in_err-read_on-clause-long g c is =
    too_long c.args.setup.now c.args.at.now (g.S.Source.remaining c.args.source.now) (g.S.Source.remaining c.loop-reading.source)
    c.loop-reading.held c.loop-reading.reading 4294967295 c.loop-reading.invariant.read
    (c.in_err-read_on.ensures.long (let same = c.from_residual-in_err-read_on.ensures in search rules))

pub go_on-requires-clause-read : goal.go_on-requires-clause-read
go_on-requires-clause-read g c κs within = (
  g.S.Source.remaining c.args.source.now,
  g.S.Source.remaining c.read_on.new.source,
  read_more c.args.setup.now c.args.at.now (g.S.Source.remaining c.args.source.now) (g.S.Source.remaining c.loop-reading.source)
      (g.S.Source.remaining c.read_on.new.source) c.loop-reading.held c.read_on.new.held c.loop-reading.reading
      c.in_ok-read_on.ensures.read.0 c.loop-reading.invariant.read c.in_ok-read_on.ensures.read.1,
)

pub loop-reading-preserved : goal.loop-reading-preserved
loop-reading-preserved g c =
    let later = read_more c.args.setup.now c.args.at.now (g.S.Source.remaining c.args.source.now)
    (g.S.Source.remaining c.loop-reading.source) (g.S.Source.remaining c.read_on.new.source) c.loop-reading.held c.read_on.new.held
    c.loop-reading.reading c.in_ok-read_on.ensures.read.0 c.loop-reading.invariant.read c.in_ok-read_on.ensures.read.1 in
    record {
      read = c.in_ok-reading-2.ensures.read (g.S.Source.remaining c.args.source.now) (g.S.Source.remaining c.read_on.new.source) later;
      few = subst (λ (k : ℕ). k ≤ 4294967295) (sym c.in_ok-reading-2.ensures.total) c.in_ok-read_on.ensures.few;
      given = subst (λ (k : ℕ). k ≤ g.S.Source.given c.read_on.new.source) (sym c.in_ok-reading-2.ensures.total)
          (c.in_ok-read_on.ensures.given c.loop-reading.invariant.given);
      faults = search rules;
      rested = search rules;
      tried = search rules;
    }

pub finish-requires-clause-read : goal.finish-requires-clause-read
finish-requires-clause-read g c κs within = (
  g.S.Source.remaining c.args.source.now,
  g.S.Source.remaining c.read_on.new.source,
  read_more c.args.setup.now c.args.at.now (g.S.Source.remaining c.args.source.now) (g.S.Source.remaining c.loop-reading.source)
      (g.S.Source.remaining c.read_on.new.source) c.loop-reading.held c.read_on.new.held c.loop-reading.reading
      c.in_ok-read_on.ensures.read.0 c.loop-reading.invariant.read c.in_ok-read_on.ensures.read.1,
)

pub returns-clause-night : goal.returns-clause-night
returns-clause-night g c =
    let later = read_more c.args.setup.now c.args.at.now (g.S.Source.remaining c.args.source.now)
    (g.S.Source.remaining c.loop-reading.source) (g.S.Source.remaining c.read_on.new.source) c.loop-reading.held c.read_on.new.held
    c.loop-reading.reading c.in_ok-read_on.ensures.read.0 c.loop-reading.invariant.read c.in_ok-read_on.ensures.read.1 in
    c.in_ok-night.ensures.night (g.S.Source.remaining c.args.source.now) (g.S.Source.remaining c.read_on.new.source) later
    (c.in_ok-read_on.ensures.read.3 c.if-branch.false)

pub returns-clause-short : goal.returns-clause-short
returns-clause-short g c =
    let later = read_more c.args.setup.now c.args.at.now (g.S.Source.remaining c.args.source.now)
    (g.S.Source.remaining c.loop-reading.source) (g.S.Source.remaining c.read_on.new.source) c.loop-reading.held c.read_on.new.held
    c.loop-reading.reading c.in_ok-read_on.ensures.read.0 c.loop-reading.invariant.read c.in_ok-read_on.ensures.read.1 in
    not_too_long c.args.setup.now c.args.at.now (g.S.Source.remaining c.args.source.now) (g.S.Source.remaining c.read_on.new.source)
    c.read_on.new.held c.loop-reading.reading 4294967295 later (c.in_ok-read_on.ensures.read.3 c.if-branch.false)
    c.in_ok-read_on.ensures.few
