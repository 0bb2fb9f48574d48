-- X12.6, hierarchical level segment: HL01 to HL04 of HLs, as they are kept for a look at the hierarchy (own).
use Rattle.std.specs.Prelude.{ℕ, ◌≡◌, List, map}
use Rattle.guide_tree.specs.Words.{Segment}
use Rattle.hl_check.specs.Hierarchy.{hierarchical_id_of, parent_id_of, level_of, child_of}

pub record Names : Type 0 where
  pub number : List ℕ
  pub parent : List ℕ
  pub level : List ℕ
  pub child : List ℕ

abbrev pub names_of : Segment → Names
names_of h = record { number = hierarchical_id_of h; parent = parent_id_of h; level = level_of h; child = child_of h }

-- these are the names of those HLs, one for each, in their order
abbrev pub AreNames : List Names → (hls : List Segment) → Type 0
AreNames names hls = names ≡ map names_of hls
