-- X12.5, interchange: the interchanges of a text with their faults, and how many bytes are outside of them.
use Rattle.std.specs.Prelude.{◌≡◌, ℕ, List, map, Option}
use Rattle.std.specs.List.{All}
use Rattle.hub_kinds.specs.declared.interchange.InterchangeFault.{InterchangeFault}
use Rattle.x12_segs.specs.Words.{SegValue, kind_of}
use Rattle.env_index.specs.Envelope.{Body, DerivesInterchange}
use Rattle.env_index.specs.Extents.{Extent, Chain, IsNextHead, count_outside, reach_at}
use Rattle.env_index.specs.Faults.{fault_of}
use Rattle.env_index.specs.Interchange.{InterchangeEntry, interchange_of}
use Rattle.env_index.specs.Spans.{HasSpans}

-- an interchange, and its least fault
pub record IndexEntry : Type 0 where
  pub interchange : InterchangeEntry
  pub fault : Option InterchangeFault

-- the text, its interchanges in their order, and the count outside
pub record IndexValue : Type 0 where
  pub text : List ℕ
  pub entries : List IndexEntry
  pub outside : ℕ

abbrev pub extent_of : IndexEntry → Extent
extent_of e = record { start = e.interchange.start; end = e.interchange.end }

abbrev pub extents_of : List IndexEntry → List Extent
extents_of es = map extent_of es

-- what is in a text at an interchange's start is this interchange, and its sets are in their spans
pub record IsReadIn (text : List ℕ) (x : InterchangeEntry) : Type 0 where
  pub tree : Body SegValue
  pub derived : DerivesInterchange kind_of (reach_at text x.start).segs tree
  pub read : x ≡ interchange_of text x.start tree
  pub spans : HasSpans text x

-- and its fault is the least of the faults 1 to 7
pub record IsEntryOf (text : List ℕ) (e : IndexEntry) : Type 0 where
  pub read : IsReadIn text e.interchange
  pub fault : e.fault ≡ fault_of e.interchange

-- the index of a text, before senders and first uses of numbers are known
pub record IsIndex (text : List ℕ) (index : IndexValue) : Type 0 where
  pub same : index.text ≡ text
  pub chain : Chain text (extents_of index.entries)
  pub entries : All (IsEntryOf text) index.entries
  pub outside : index.outside ≡ count_outside text 0 (extents_of index.entries)

-- the next interchange from an offset on
pub record IsNextIn (text : List ℕ) (from : ℕ) (x : InterchangeEntry) : Type 0 where
  pub next : IsNextHead text from x.start
  pub read : IsReadIn text x
