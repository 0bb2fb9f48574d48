use Rattle.std.proofs.Common.{List, subst, ◌↔◌}
use Rattle.std.specs.List.{Contains}
use Rattle.guide_tree.specs.declared.rows.Dependency.{Dependency}
use Rattle.depend_check.specs.Uses.{lent}
use Rattle.depend_check.proofs.Lists.{reordered}
use Rattle.depend_check.proofs.triggered.in_trigger_order.Goals as goal
use denote.Ref.{Bor}

pub returns : goal.returns
returns c d =
    subst (λ (l : List Dependency). Contains (lent c.sort_unstable_by.new.self.items) d ↔ Contains l d) c.in_ok-all.ensures
    (reordered (λ (x : Bor Dependency). x.now) c.in_ok-all.all.items c.sort_unstable_by.new.self.items d
    c.sort_unstable_by.ensures.permutation)
