-- own: what a folder of samples holds: two that meet the guide, those that break a rule, and their list.
use Rattle.std.specs.Prelude.{◌≡◌, ℕ, List, [], ◌∷◌, ◌++◌, Option, codes, length, map}
use Rattle.std.specs.List.{flat_map}
use Rattle.csv_fields.specs.Csv.{field_text, fields_text}
use Rattle.guide_tree.specs.Words.{GuideTree}
use Rattle.guide_samples.specs.Samples.{IsSample}
use Rattle.guide_samples.specs.declared.rule.Rule.{Rule}
use Rattle.system_io.specs.Outbox.{AddsFiles, File}
use Rattle.page_command.specs.Samples.{AreBreaking, Sample}
use Rattle.sample_folder.specs.Names.{file_name}

abbrev pub file_of : Sample → File
file_of s = (file_name s.number, s.text)

-- a row of the list: the file's name, and what the 999 says of it
abbrev pub row_of : Sample → List ℕ
row_of s = field_text (file_name s.number) ++ (fields_text (s.lines ∷ []) ++ 13 ∷ 10 ∷ [])

abbrev pub index_text : List Sample → List ℕ
index_text samples = codes "sample,answer\r\n" ++ flat_map row_of samples

abbrev pub files_of : (complete smallest : List ℕ) → List Sample → List File
files_of complete smallest samples =
    (codes "complete.x12", complete) ∷ (codes "smallest.x12", smallest) ∷ (map file_of samples
    ++ (codes "index.csv", index_text samples) ∷ [])

-- beside the complete sample there is a smaller one, and at most one for each rule that is tried
pub record AreSampleFiles (guide : GuideTree) (complete : List ℕ) (files : List File) : Type 0 where
  pub smallest : List ℕ
  pub rules : List Rule
  pub samples : List Sample
  pub small : IsSample guide smallest
  pub breaking : AreBreaking guide rules 0 (length rules) samples
  pub files_are : files ≡ files_of complete smallest samples

-- such files are added, and no others
pub record AddsSamples (guide : GuideTree) (complete : List ℕ) (was is : Option (List File)) : Type 0 where
  pub files : List File
  pub added : AddsFiles was is files
  pub are : AreSampleFiles guide complete files

-- private: files of samples for rules with these numbers are added, and a row of the list for each
pub record AddsBroken (guide : GuideTree) (rules : List Rule) (from to : ℕ) (was is : Option (List File))
    (list longer : List ℕ) : Type 0 where
  pub samples : List Sample
  pub breaking : AreBreaking guide rules from to samples
  pub added : AddsFiles was is (map file_of samples)
  pub rows : longer ≡ list ++ flat_map row_of samples
