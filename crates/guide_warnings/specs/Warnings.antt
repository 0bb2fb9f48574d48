-- Own: the warnings of a guide, in its order.
use Rattle.std.specs.Prelude.{List, [], ◌∷◌, ◌++◌, if◌then◌else◌}
use Rattle.guide_tree.specs.Words.{GuideTree}
use Rattle.guide_tree.specs.declared.rows.GuideHead.{GuideHead}
use Rattle.guide_warnings.specs.Groups.{has_unusual_group}
use Rattle.guide_warnings.specs.Headers.{lets_headers_through}
use Rattle.guide_warnings.specs.Dependencies.{dependency_warnings}
use Rattle.guide_warnings.specs.Dictionary.{dictionary_warnings}
use Rattle.guide_warnings.specs.Labels.{nodes_labels}
use Rattle.guide_warnings.specs.Nodes.{nodes_warnings}
use Rattle.guide_warnings.specs.Unmet.{unmet_nodes}
use Rattle.guide_warnings.specs.declared.warning.Warning.{Warning}
use Rattle.guide_warnings.specs.declared.warning.Warning.TheVariants as warning

abbrev pub group_warnings : GuideHead → List Warning
group_warnings head =
    if has_unusual_group head then warning.UnusualGroup (record { group = head.group; set = head.set }) ∷ [] else []

abbrev pub header_warnings : GuideHead → List Warning
header_warnings head = if lets_headers_through head then warning.HeaderLetThrough ∷ [] else []

abbrev pub head_warnings : GuideHead → List Warning
head_warnings head = group_warnings head ++ header_warnings head

abbrev pub warnings_of : GuideTree → List Warning
warnings_of g =
    head_warnings g.head
    ++ (dictionary_warnings g.nodes g.head.dictionary
    ++ (unmet_nodes g.nodes
    ++ (nodes_warnings g.nodes ++ (nodes_labels g.depends g.nodes ++ dependency_warnings g.nodes 1 g.depends))))
