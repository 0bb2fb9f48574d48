use Rattle.std.proofs.Common.{◌++◌, List, ℕ, subst, take}
use Rattle.std.specs.List.{flat_map}
use Rattle.guide_tree.specs.Codes.{Knows}
use Rattle.guide_tree.specs.declared.rows.Dependency.{Dependency}
use Rattle.guide_widening.specs.Keys.{code_keys}
use Rattle.guide_widening.proofs.Found.{next_all}
use Rattle.guide_widening.proofs.dependencies.keys_of.Goals as goal

pub loop-i-preserved : goal.loop-i-preserved
loop-i-preserved c =
    next_all c.add_keys.new.known code_keys c.args.depends.now c.loop-i.i c.index-depends-i.result c.loop-i-test.true
    (subst (λ (d : Dependency). Knows c.add_keys.new.known (flat_map code_keys (take c.loop-i.i c.args.depends.now) ++ code_keys d))
    (cc) (c.in_ok-add_keys.ensures (flat_map code_keys (take c.loop-i.i c.args.depends.now)) c.loop-i.invariant))
