use Rattle.std.proofs.Common.{ℕ, ◌<◌, ◌∙◌, ◌++◌, List, ap, get_or, length, map, subst, take}
use Rattle.guide_widening.specs.Keys.{dependency_key}
use Rattle.guide_widening.proofs.Found.{next_keys}
use Rattle.guide_widening.proofs.dependencies.add_keys.Goals as goal

pub loop-i-preserved : goal.loop-i-preserved
loop-i-preserved c all knows =
    next_keys c.insert_key.new.known (dependency_key c.args.depend.now) all c.args.depend.now.codes c.loop-i.i c.index-codes-i.result
    (subst (λ (l : List (List ℕ)). c.loop-i.i < length l) c.as_slice-codes.ensures c.loop-i-test.true) c.in_ok-key.key.items
    (c.in_ok-key.ensures ∙ ap (dependency_key c.args.depend.now) (c.as_slice.ensures ∙ c.index-codes-i.is
    ∙ ap (λ (l : List (List ℕ)). get_or l c.loop-i.i c.index-codes-i.result) c.as_slice-codes.ensures))
    (c.in_ok-insert_key.ensures (all ++ map (dependency_key c.args.depend.now) (take c.loop-i.i c.args.depend.now.codes))
    (c.loop-i.invariant all knows))
