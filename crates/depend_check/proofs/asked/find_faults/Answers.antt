use Rattle.std.proofs.Common.{◌↔◌, List, ap, subst}
use Rattle.std.specs.List.{Contains}
use Rattle.std.proofs.lemmas.Result.{IfOk-weaker}
use Rattle.guide_tree.specs.declared.rows.Dependency.{Dependency}
use Rattle.guide_tree.specs.Words.{nodes_view}
use Rattle.loop_match.specs.Viewed.{placed_views}
use Rattle.depend_check.specs.Uses.{IsBrokenAmong, lent}
use Rattle.depend_check.proofs.Asking.{among_found}
use Rattle.depend_check.proofs.asked.find_faults.Goals as goal

pub returns : goal.returns
returns c =
    let ts = nodes_view c.args.nodes.now in
    let all = placed_views c.args.placed.now in
    IfOk-weaker c.find_broken.result _ _ (λ v told f.
    let told_of = subst (λ (l : List Dependency). Contains v f ↔ IsBrokenAmong ts c.args.delims c.args.end all l f)
    (ap lent c.as_slice.ensures.value) (told f) in
    let same = among_found ts c.args.delims c.args.end all c.args.depends.now (lent c.in_ok-asked.asked.items) f c.in_ok-asked.ensures in
    (λ h. same.0 (told_of.0 h), λ h. told_of.1 (same.1 h))) c.find_broken.ensures
