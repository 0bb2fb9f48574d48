-- own: what a folder holds of two guides: a set for each difference that isn't wider, if one is known, and their list.
use Rattle.std.specs.Prelude.{◌≡◌, ℕ, List, [], ◌∷◌, ◌++◌, Option, None, Some, IfSome, IsTrue, codes, length, map, if◌then◌else◌}
use Rattle.std.specs.List.{All, flat_map, range_with_len, slice_get}
use Rattle.std.specs.Option.{option_map_or}
use Rattle.csv_fields.specs.Csv.{field_text, fields_text}
use Rattle.file_names.specs.Shown.{shown}
use Rattle.guide_tree.specs.Words.{GuideTree, guide_of}
use Rattle.guide_widening.specs.Changes.{is_widening}
use Rattle.guide_widening.specs.Differences.{differences}
use Rattle.guide_widening.specs.declared.difference.Difference.{Difference}
use Rattle.guide_samples.specs.Between.{ShowsDifference}
use Rattle.diff_lines.specs.Lines.{difference_text}
use Rattle.diff_lines.specs.Paths.{paths_of}
use Rattle.system_io.specs.Outbox.{AddsFiles, File}
use Rattle.sample_folder.specs.Names.{file_name}
use Rattle.diff_samples.specs.declared.samples.Compared.{Compared}

-- a text, and what the 999 says of it
pub record Sample : Type 0 where
  pub text : List ℕ
  pub lines : List ℕ

-- a difference with its number, from 0, and a sample that shows it, if one is known
pub record Known : Type 0 where
  pub number : ℕ
  pub difference : Difference
  pub sample : Option Sample

-- it is one of the differences of the guides; a sample that is known shows it; of a wider one none is sought
pub record IsKnown (old new : GuideTree) (ds : List Difference) (k : Known) : Type 0 where
  pub there : slice_get ds k.number ≡ Some k.difference
  pub shows : IfSome k.sample (λ s. ShowsDifference old new k.difference s.text s.lines)
  pub sought : IsTrue (is_widening k.difference) → k.sample ≡ None

abbrev pub files_of : Known → List File
files_of k = option_map_or (λ s. (file_name k.number, s.text) ∷ []) k.sample []

-- a row of the list: the line that is printed of the difference, the file's name, and what the 999 says of it
abbrev pub row_text : (line name answer : List ℕ) → List ℕ
row_text line name answer = field_text line ++ (fields_text (name ∷ answer ∷ []) ++ 13 ∷ 10 ∷ [])

-- of guides whose nodes have these paths
abbrev pub row_of : (before after : List (List ℕ)) → Known → List ℕ
row_of before after k =
    let line = shown (difference_text before after k.difference) in
    if is_widening k.difference then []
    else option_map_or (λ s. row_text line (file_name k.number) s.lines) k.sample (row_text line [] [])

abbrev pub index_text : (before after : List (List ℕ)) → List Known → List ℕ
index_text before after ks = codes "difference,sample,answer\r\n" ++ flat_map (row_of before after) ks

-- what is known of each difference of the guides, in their order
pub record AreKnown (old new : GuideTree) (ds : List Difference) (count : ℕ) (ks : List Known) : Type 0 where
  pub numbers : map (λ k. k.number) ks ≡ range_with_len 0 count
  pub each : All (IsKnown old new ds) ks

-- the files of samples that show differences of two guides, and their list
pub record AreSampleFiles (old new : GuideTree) (files : List File) : Type 0 where
  pub ks : List Known
  pub known : AreKnown old new (differences old new) (length (differences old new)) ks
  pub files_are : files ≡ flat_map files_of ks ++ (codes "index.csv", index_text (paths_of old.nodes) (paths_of new.nodes) ks) ∷ []

-- such files are added, and no others
pub record AddsSamples (old new : GuideTree) (was is : Option (List File)) : Type 0 where
  pub files : List File
  pub added : AddsFiles was is files
  pub are : AreSampleFiles old new files

-- private: the files of the first differences are added, and their rows to the list
pub record AddsFirst (c : Compared) (count : ℕ) (was is : Option (List File)) (list longer : List ℕ) : Type 0 where
  pub ks : List Known
  pub known : AreKnown (guide_of c.old.now) (guide_of c.new.now) c.found.now count ks
  pub added : AddsFiles was is (flat_map files_of ks)
  pub rows : longer ≡ list ++ flat_map (row_of c.before.now c.after.now) ks

-- private: the file of one difference, and its row
pub record AddsOne (c : Compared) (number : ℕ) (was is : Option (List File)) (list longer : List ℕ) : Type 0 where
  pub k : Known
  pub is_this : k.number ≡ number
  pub known : IsKnown (guide_of c.old.now) (guide_of c.new.now) c.found.now k
  pub added : AddsFiles was is (files_of k)
  pub rows : longer ≡ list ++ row_of c.before.now c.after.now k
