-- Warnings of a names file (own): a line for each thing that it has words for, and the guide doesn't have.
use Rattle.std.specs.Prelude.{ℕ, List, [], ◌++◌, codes, if◌then◌else◌}
use Rattle.std.specs.List.{flat_map}
use Rattle.hub_kinds.specs.Words.{contains_text}
use Rattle.file_names.specs.Shown.{shown}
use Rattle.guide_tree.specs.Words.{GuideTree}
use Rattle.guide_names.specs.Names.{Words}
use Rattle.guide_names.specs.Subjects.{subjects}
use Rattle.names_file.specs.GuideSubjects.{subjects_of}

unfoldable pub warning_line : (path subject : List ℕ) → List ℕ
warning_line path subject = codes "nighthub_page: " ++ (shown path ++ (codes ": the guide has no " ++ (shown subject ++ codes "\n")))

unfoldable pub line_unless_known : (known : List (List ℕ)) → (path subject : List ℕ) → List ℕ
line_unless_known known path subject = if contains_text known subject then [] else warning_line path subject

-- the warnings of the names file at a path
abbrev pub warnings : GuideTree → Words → (path : List ℕ) → List ℕ
warnings guide words path = flat_map (line_unless_known (subjects_of guide) path) (subjects words)
