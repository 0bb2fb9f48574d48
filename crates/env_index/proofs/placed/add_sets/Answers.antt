use Rattle.std.proofs.Common.{ℕ, ◌+◌, ◌<◌, refl, subst}
use Rattle.env_index.proofs.Placing.{one_more, sets_at}
use Rattle.env_index.proofs.placed.add_sets.Goals as goal

pub loop-index-preserved : goal.loop-index-preserved
loop-index-preserved c =
    one_more c.loop-index.places.items c.push.new.self.items _ _ _ _ c.in_ok-push.ensures.items
    (sets_at c.args.isa c.args.gs (c.loop-index.index + 1) c.loop-index.index (c.loop-index.index + 1) c.args.group.now.sets
    (subst (λ (n : ℕ). c.loop-index.index < n) c.set_count-index-end.ensures c.loop-index-test.true) refl)
    c.loop-index.invariant
