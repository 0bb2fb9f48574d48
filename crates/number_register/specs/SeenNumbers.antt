-- X12.5, interchange sender, receiver and control number: which numbers of interchanges were seen so far (own: how they are kept).
use Rattle.std.specs.Prelude.{◌≡◌, ℕ, Bool, List, [], ◌∷◌, ◌++◌, map, filter, is_none, Vec}
use Rattle.std.specs.List.{All, list_any}
use Rattle.std.specs.List.Sorted.{IsSorted}
use Rattle.std.specs.Str.{bytes_eq}
use Rattle.std.specs.declared.alloc.Global.{Global}
use Rattle.std.specs.Cmp.Lexicographic.{slice_cmp}
use Rattle.std.specs.Ordering.{nat_cmp}
use Rattle.x12_bytes.specs.Header.{field_of}
use Rattle.env_index.specs.Words.{IndexEntry}
use Rattle.number_register.specs.declared.seen.Seen.{Seen}

-- what numbers an interchange: ISA05 to ISA08 and ISA13, one after the other; each has its fixed width
abbrev pub number_key : (header : List ℕ) → List ℕ
number_key header = field_of header 5 ++ (field_of header 6 ++ (field_of header 7 ++ (field_of header 8 ++ field_of header 13)))

abbrev pub interchange_key_of : IndexEntry → List ℕ
interchange_key_of e = number_key e.interchange.header

-- the numbers of the interchange places of a settled index
abbrev pub interchange_keys : List IndexEntry → List (List ℕ)
interchange_keys es = map interchange_key_of (filter (λ e. is_none e.fault) es)

-- a number is among these
abbrev pub is_among : List ℕ → List (List ℕ) → Bool
is_among number numbers = list_any (bytes_eq number) numbers

-- the numbers of runs (no public clause cites it)
abbrev pub keys_in : List (Vec (List ℕ) Global) → List (List ℕ)
keys_in [] = []
keys_in (run ∷ runs) = run.items ++ keys_in runs

-- these were seen and no other; each run is in order
pub record HaveSeen (seen : Seen) (numbers : List (List ℕ)) : Type 0 where
  pub same : (number : List ℕ) → is_among number (keys_in seen.runs.items) ≡ is_among number numbers
  pub ordered : All (λ run. IsSorted (slice_cmp nat_cmp) run.items) seen.runs.items
