-- The definition of a night and those of the layers are one: what a guide file says.
use Rattle.std.specs.Prelude.{◌≡◌, ℕ, List, Some, Ok, option_and_then}
use Rattle.toml.specs.Data.{Members}
use Rattle.guide_tree.specs.declared.rows.GuideRows.{GuideRows}
use Rattle.guide_tree.specs.Words.{GuideTree, guide_of, with_slot_numbers}
use Rattle.guide_toml.specs.FileBytes.{IsGuideOf}
use Rattle.guide_toml.specs.Guides as then
use Rattle.night_definition.specs.GuideFile.{guide_of_table}
use Rattle.night_definition.specs.Program.{table_in}

-- the guide that is read of a table, with its slots numbered, is the one that the table describes
abbrev pub GuideFilesAreOne : Type 0
GuideFilesAreOne = (t : Members) (guide : GuideTree) → then.guide_of_table t ≡ Ok guide → guide_of_table t ≡ Some (with_slot_numbers guide)

-- a guide that a file's bytes write is the one that they describe
abbrev pub GuideBytesAreOne : Type 0
GuideBytesAreOne = (bytes : List ℕ) (rows : GuideRows) → IsGuideOf (Some bytes) rows
    → option_and_then guide_of_table (table_in bytes) ≡ Some (guide_of rows)
