-- X12.5, interchange control header (ISA): headers that begin inside an interchange with a fault, where nothing reads them (own).
use Rattle.std.specs.Prelude.{◌≡◌, ℕ, ◌+◌, ◌==◌, ◌&&◌, not, is_some, List, [], ◌∷◌, ◌++◌, codes, decimal, if◌then◌else◌, length}
use Rattle.x12_bytes.specs.declared.layout.TheConstants.{HEADER_LEN}
use Rattle.env_index.specs.Index.{IndexEntry, IndexValue, IsIndex}
use Rattle.env_index.specs.Interchange.{InterchangeEntry}
use Rattle.isa_scan.specs.Heads.{starts_in}

-- how many headers begin in an interchange after its own
abbrev pub inner_count : (text : List ℕ) → InterchangeEntry → ℕ
inner_count text x = length (starts_in text (x.start + HEADER_LEN) x.end)

-- what is said of an interchange: its number among those of the text, its offset, and how many further headers it has
abbrev pub inner_line : (number start count : ℕ) → List ℕ
inner_line number start count =
    (codes "interchange " ++ decimal number) ++ ((codes " at byte " ++ decimal start) ++ (codes ": further headers " ++ decimal count))

-- an interchange with a fault in which a further header begins
abbrev pub lines_at : (text : List ℕ) → (number : ℕ) → IndexEntry → List (List ℕ)
lines_at text number e =
    if is_some e.fault && not (inner_count text e.interchange == 0)
    then inner_line number e.interchange.start (inner_count text e.interchange) ∷ [] else []

-- the interchanges of a text from that of a number on
abbrev pub lines_from : (text : List ℕ) → (number : ℕ) → List IndexEntry → List (List ℕ)
lines_from text number [] = []
lines_from text number (e ∷ entries) = lines_at text number e ++ lines_from text (number + 1) entries

-- the lines on the interchanges of a text
pub record AreInnerLines (text : List ℕ) (lines : List (List ℕ)) : Type 0 where
  pub index : IndexValue
  pub index_is : IsIndex text index
  pub lines_are : lines ≡ lines_from text 1 index.entries
