use Rattle.std.proofs.Common.{ℕ, ◌+◌, ap, sym, ◌∙◌}
use Rattle.loop_match.specs.Steps.{place_view}
use Rattle.guide_fast.proofs.StationTurns.{use_there, use_next}
use Rattle.guide_fast.proofs.station.use_behind.Goals as goal

pub returns-then-known-clause-is : goal.returns-then-known-clause-is
returns-then-known-clause-is c =
    let k = c.args.known.now in
    ap (λ (n : ℕ). n + 1) (sym (use_there c.args.last.now k.depth _ (c.requires.further c.if-known.true)))
    ∙ sym (use_next (place_view c.args.last.now) k c.if-known.true)
