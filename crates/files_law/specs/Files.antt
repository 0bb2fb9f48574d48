-- X12.5, interchange: what a receiver reads in a file of a night, by the definition of the index.
use Rattle.std.specs.Prelude.{◌≡◌, ℕ, ◌+◌, List, [], ◌∷◌, length, None}
use Rattle.std.specs.List.{All}
use Rattle.x12_write.specs.Group.{texts_in_row}
use Rattle.env_index.specs.Words.{Extent, IndexEntry, IndexValue, IsIndex, extents_of}

-- where each of some texts starts and ends, one after another with no byte between them
abbrev pub extents_in_row : (from : ℕ) → List (List ℕ) → List Extent
extents_in_row from [] = []
extents_in_row from (text ∷ texts) = record { start = from; end = from + length text } ∷ extents_in_row (from + length text) texts

-- a file has just these interchanges, one after another: no byte is outside of them, and none has a fault 1 to 7
pub record HasInterchanges (texts : List (List ℕ)) (file : List ℕ) : Type 0 where
  pub in_row : file ≡ texts_in_row texts
  pub index : IndexValue
  pub is : IsIndex file index
  pub extents : extents_of index.entries ≡ extents_in_row 0 texts
  pub inside : index.outside ≡ 0
  pub faultless : All (λ (e : IndexEntry). e.fault ≡ None) index.entries
