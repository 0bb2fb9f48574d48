use Rattle.std.proofs.Common.{rules, ◌≡◌, ◌↔◌, ◌+◌, ◌++◌, List, IfOk, subst}
use Rattle.std.specs.List.{Contains}
use Rattle.hub_kinds.specs.declared.fault.Fault.{Fault}
use Rattle.guide_tree.specs.Words.{end_faults, guide_of}
use Rattle.set_walk.specs.Walked.{last_in}
use Rattle.set_walk.proofs.whole.body_faults.Goals as goal

pub returns : goal.returns
returns c =
    let end : List Fault = end_faults (c.args.walk.now.count + 2) (guide_of c.args.fast.now).nodes (last_in c.args.walk.now) in
    let structure : c.into_faults.result ≡ c.args.structure ++ end = search rules in
    subst (λ (l : List Fault). IfOk c.faults_of_both.result (λ v. (f : Fault) → Contains v f ↔ Contains (l ++ c.args.errors) f))
    structure c.faults_of_both.ensures
