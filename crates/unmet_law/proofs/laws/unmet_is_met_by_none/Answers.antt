use Rattle.std.proofs.Common.{◌≡◌, ◌≢◌, List, [], Some, ap, subst, sym}
use Rattle.guide_tree.specs.Words.{GuideTree}
use Rattle.guide_warnings.specs.Unmet.{unmet_nodes}
use Rattle.unmet_law.proofs.Nodes.{nodes_fault}
use Rattle.unmet_law.proofs.laws.unmet_is_met_by_none.Goals as goal

the_guide : (g h : GuideTree) → Some g ≡ Some h → g ≡ h
the_guide g h e = cc

pub returns : goal.returns
returns c = λ guide some parts meets.
    let known = the_guide guide meets.known meets.guided in
    let fault = nodes_fault c.values_are_one.ensures parts.delims meets.known.nodes
    (subst (λ (g : GuideTree). unmet_nodes g.nodes ≢ []) known some) meets.slots meets.derived in
    meets.elements fault.given fault.fault fault.among fault.is
