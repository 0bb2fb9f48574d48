-- X12.6, transaction set: what a guide that was changed takes.
use Rattle.std.specs.Prelude.{IsTrue, Some}
use Rattle.guide_tree.specs.declared.rows.GuideRows.{GuideRows}
use Rattle.guide_tree.specs.Words.{GuideTree, IsAccepted, guide_of}
use Rattle.set_check.specs.Meets.{MeetsAlone}
use Rattle.set_check.specs.SetParts.{SetParts}
use Rattle.x12_bytes.specs.declared.delims.Delims.{Delims}
use Rattle.night_definition.specs.Envelopes.{Set}
use Rattle.night_definition.specs.Sets as room
use Rattle.guide_widening.specs.Wider.{is_wider}

-- where the new guide is wider, each set that meets the old one, looked at alone, meets the new one
abbrev pub WiderGuidesTakeMore : Type 0
WiderGuidesTakeMore = (old new : GuideTree) (parts : SetParts) → IsTrue (is_wider old new) → MeetsAlone (Some old) parts
    → MeetsAlone (Some new) parts

-- the same of accepted guides by the definition of a night, of each set, whatever its delimiters
abbrev pub WiderGuidesTakeEachSet : Type 0
WiderGuidesTakeEachSet = (old new : GuideRows) (d : Delims) (set : Set) → IsAccepted old → IsAccepted new
    → IsTrue (is_wider (guide_of old) (guide_of new)) → room.MeetsAlone (Some (guide_of old)) d set
    → room.MeetsAlone (Some (guide_of new)) d set

-- a guide that is accepted is as wide as itself
abbrev pub EachGuideIsAsWide : Type 0
EachGuideIsAsWide = (guide : GuideRows) → IsAccepted guide → IsTrue (is_wider (guide_of guide) (guide_of guide))
