-- X12.6, transaction set: a new guide that takes each set which the old one takes, as far as the rows of both show it.
use Rattle.std.specs.Prelude.{Bool, ◌&&◌}
use Rattle.std.specs.Str.{bytes_eq}
use Rattle.guide_tree.specs.declared.rows.GuideHead.{GuideHead}
use Rattle.guide_tree.specs.Words.{GuideTree}
use Rattle.guide_widening.specs.Nodes.{are_wider_nodes}
use Rattle.guide_widening.specs.Rules.{is_wider_hierarchy, are_wider_dependencies, is_wider_convention, is_wider_tolerance}

-- both guides are for the same sets: GS01, ST01 and GS08
abbrev pub is_same_set : GuideHead → GuideHead → Bool
is_same_set old new = bytes_eq old.group new.group && bytes_eq old.set new.set && bytes_eq old.version new.version

abbrev pub is_wider : (old new : GuideTree) → Bool
is_wider old new =
    is_same_set old.head new.head
    && is_wider_convention old.head.convention new.head.convention
    && is_wider_tolerance old.head new.head
    && is_wider_hierarchy old.hl new.hl
    && are_wider_dependencies old.depends new.depends
    && are_wider_nodes old.nodes new.nodes
