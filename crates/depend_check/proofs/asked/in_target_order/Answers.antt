use Rattle.guide_tree.specs.declared.rows.Dependency.{Dependency}
use Rattle.depend_check.proofs.Lists.{reordered}
use Rattle.depend_check.proofs.asked.in_target_order.Goals as goal
use denote.Ref.{Bor}

pub returns : goal.returns
returns c d =
    let moved = reordered (λ (x : Bor Dependency). x.now) c.in_ok-asked.asked.items c.sort_unstable_by.new.self.items d
    c.sort_unstable_by.ensures.permutation in
    let same = c.in_ok-asked.ensures d in
    (λ h. same.0 (moved.0 h), λ h. moved.1 (same.1 h))
