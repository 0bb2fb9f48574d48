-- X12.5, interchange: files of a day, one after another, so that none touches its neighbour (own).
use Rattle.std.specs.Prelude.{◌≡◌, ℕ, ◌+◌, ◌<◌, ◌⊎◌, true, false, List, [], ◌∷◌, ◌++◌, length, map}
use Rattle.std.specs.List.{All}
use Rattle.x12_bytes.specs.Header.{header_at, terminator_of}
use Rattle.x12_bytes.specs.HeaderTest.{is_head}
use Rattle.x12_bytes.specs.declared.layout.TheConstants.{HEADER_LEN}
use Rattle.x12_segs.specs.Words.{rest_from}
use Rattle.env_index.specs.Words.{Chain, Extent, IndexEntry, IndexValue, IsIndex}
use Rattle.whole_interchanges.specs.Batches.{ChainUpTo}
use Rattle.whole_interchanges.specs.Begun.{may_begin}
use Rattle.whole_interchanges.specs.Moved.{moved_entry}

-- a file, and its index where it is read alone
pub record File : Type 0 where
  pub bytes : List ℕ
  pub index : IndexValue

-- where what comes after the last terminator of an interchange begins, after its CR and LF
abbrev pub open_from : List ℕ → ℕ → ℕ
open_from bytes start = (rest_from bytes (terminator_of (header_at bytes start)) (start + HEADER_LEN)).start

-- an interchange that continues to the end of the bytes has nothing but CR and LF after its last terminator
abbrev pub IsClosed : List ℕ → Extent → Type 0
IsClosed bytes x = (x.end ≡ length bytes) → (open_from bytes x.start ≡ length bytes)

-- a closed file: each of its interchanges is closed (only its last one can be open)
abbrev pub IsClosedFile : List ℕ → Type 0
IsClosedFile bytes = (xs : List Extent) → Chain bytes xs → All (IsClosed bytes) xs

-- fit to gather: it begins with a header, and no header can turn out to begin in it
pub record IsFit (bytes : List ℕ) : Type 0 where
  pub begins : is_head bytes 0 ≡ true
  pub ends : (q : ℕ) → q < length bytes → may_begin bytes q ≡ false

-- a file that is closed and fit stands apart from what is put after it
pub record StandsApart (bytes : List ℕ) : Type 0 where
  pub closed : IsClosedFile bytes
  pub fit : IsFit bytes

-- what may be after a file: nothing, or what begins with a header
abbrev pub MayFollow : List ℕ → Type 0
MayFollow more = (more ≡ []) ⊎ (is_head more 0 ≡ true)

-- whatever follows, its interchanges continue up to its end, and none further
abbrev pub KeepsToItself : List ℕ → Type 0
KeepsToItself bytes = (more : List ℕ) → MayFollow more → (xs : List Extent) × ChainUpTo (bytes ++ more) 0 (length bytes) xs

-- the same, and this many interchanges
abbrev pub HoldsInterchanges : List ℕ → ℕ → Type 0
HoldsInterchanges bytes n =
    (more : List ℕ) → MayFollow more → (xs : List Extent) × ChainUpTo (bytes ++ more) 0 (length bytes) xs × (length xs ≡ n)

-- whatever follows, an interchange ends or none is open at this offset of what is read
abbrev pub GoesUpTo : List ℕ → ℕ → Type 0
GoesUpTo read at = (more : List ℕ) → (xs : List Extent) × ChainUpTo (read ++ more) 0 at xs

-- the same, and this many interchanges up to there
abbrev pub PassesInterchanges : List ℕ → (at n : ℕ) → Type 0
PassesInterchanges read at n = (more : List ℕ) → (xs : List Extent) × ChainUpTo (read ++ more) 0 at xs × (length xs ≡ n)

-- the front of a file, which is dropped, has this many interchanges, and is whole before what is held of it, whatever follows
abbrev pub IsWholeBefore : (front held : List ℕ) (n : ℕ) → Type 0
IsWholeBefore front held n =
    (more : List ℕ) → (xs : List Extent) × ChainUpTo (front ++ (held ++ more)) 0 (length front) xs × (length xs ≡ n)

-- a file that keeps to itself, and its index
pub record IsKept (file : File) : Type 0 where
  pub read : IsIndex file.bytes file.index
  pub begins : is_head file.bytes 0 ≡ true
  pub keeps : KeepsToItself file.bytes

-- a file that stands apart, and its index
pub record IsFile (file : File) : Type 0 where
  pub read : IsIndex file.bytes file.index
  pub apart : StandsApart file.bytes

-- one after another
abbrev pub gathered : List File → List ℕ
gathered [] = []
gathered (file ∷ files) = file.bytes ++ gathered files

-- the entries of each, moved by the bytes before it
abbrev pub entries_behind : ℕ → List File → List IndexEntry
entries_behind before [] = []
entries_behind before (file ∷ files) = map (moved_entry before) file.index.entries ++ entries_behind (before + length file.bytes) files

abbrev pub outside_of : List File → ℕ
outside_of [] = 0
outside_of (file ∷ files) = file.index.outside + outside_of files

abbrev pub gathered_index : List File → IndexValue
gathered_index files = record { text = gathered files; entries = entries_behind 0 files; outside = outside_of files }
