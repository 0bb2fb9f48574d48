-- X12.5, interchange: the index of a text before its interchanges are judged.
use Rattle.std.specs.Prelude.{◌≡◌, ℕ, List, map, Option, None}
use Rattle.std.specs.List.{All}
use Rattle.hub_kinds.specs.declared.interchange.InterchangeFault.{InterchangeFault}
use Rattle.env_index.specs.Extents.{Chain, count_outside}
use Rattle.env_index.specs.Faults.{fault_of}
use Rattle.env_index.specs.Index.{IndexEntry, IndexValue, IsReadIn, IsIndex, extents_of}
use Rattle.env_index.specs.Settled.{settled}

-- an interchange of the text, without a fault so far
pub record IsUnjudgedEntry (text : List ℕ) (e : IndexEntry) : Type 0 where
  pub read : IsReadIn text e.interchange
  pub fault : e.fault ≡ None

-- the chain of the text's interchanges, none with a fault so far
pub record IsUnjudged (text : List ℕ) (index : IndexValue) : Type 0 where
  pub same : index.text ≡ text
  pub chain : Chain text (extents_of index.entries)
  pub entries : All (IsUnjudgedEntry text) index.entries
  pub outside : index.outside ≡ count_outside text 0 (extents_of index.entries)

-- the least fault of each interchange
abbrev pub faults_of : List IndexEntry → List (Option InterchangeFault)
faults_of es = map (λ e. fault_of e.interchange) es

-- given its faults it is the index of the text
abbrev pub JudgedIsIndex : List ℕ → IndexValue → Type 0
JudgedIsIndex text index = IsIndex text (settled index (faults_of index.entries))

-- given its faults it is that index
abbrev pub JudgedIs : IndexValue → IndexValue → Type 0
JudgedIs index plain = settled index (faults_of index.entries) ≡ plain
