-- X12.5, interchange: up to where the interchanges are whole in what is read of a text.
use Rattle.std.specs.Prelude.{◌≡◌, ℕ, ◌+◌, ◌≤◌, true, false, List, [], ◌++◌, length, Option, Some, None}
use Rattle.x12_bytes.specs.Header.{header_delims, header_at}
use Rattle.x12_bytes.specs.HeaderTest.{is_head}
use Rattle.x12_bytes.specs.declared.layout.TheConstants.{HEADER_LEN}
use Rattle.env_index.specs.Words.{Extent}
use Rattle.whole_interchanges.specs.Batches.{ChainUpTo, whole_end}
use Rattle.whole_interchanges.specs.Open.{GoesOn, IsAsFar, IsOpen, IsShort}
use Rattle.whole_interchanges.specs.declared.scout.Advanced.{Advanced}
use Rattle.whole_interchanges.specs.declared.scout.Entered.{Entered}
use Rattle.whole_interchanges.specs.declared.scout.Entered.TheVariants.{Open, Wait}
use Rattle.whole_interchanges.specs.declared.scout.Inside.{Inside}

-- an interchange begins there, and its end is asked from the part that is looked at on, whatever follows
pub record IsInside (read : List ℕ) (at : ℕ) (i : Inside) : Type 0 where
  pub head : is_head read at ≡ true
  pub delims : i.delims ≡ header_delims (header_at read at)
  pub behind : at + HEADER_LEN ≤ i.part.at
  pub goes_on : GoesOn read i.delims (at + HEADER_LEN) i.part.at
  pub open_part : IsOpen read i.delims.terminator i.part.at i.part.lead i.part.seen

abbrev pub Stands : List ℕ → ℕ → Option Inside → Type 0
Stands read at None = at ≤ length read
Stands read at (Some i) = IsInside read at i

-- an open interchange lies after the offset
abbrev pub IsBehind : ℕ → Option Inside → Type 0
IsBehind at None = Unit {0}
IsBehind at (Some i) = (at ≤ i.part.at) × (at ≤ i.part.lead) × (at ≤ i.part.seen)

-- no header begins between two offsets, whatever follows
abbrev pub IsGap : List ℕ → (from to : ℕ) → Type 0
IsGap read from to = (more : List ℕ) → ChainUpTo (read ++ more) from to []

pub record EntersAt (read : List ℕ) (from start : ℕ) (i : Inside) : Type 0 where
  pub gap : IsGap read from start
  pub inside : IsInside read start i

pub record EntersNone (read : List ℕ) (from at : ℕ) : Type 0 where
  pub gap : IsGap read from at
  pub within : at ≤ length read
  pub none : (q : ℕ) → at ≤ q → is_head read q ≡ false
  pub as_far : IsAsFar read at

abbrev pub Enters : List ℕ → ℕ → Entered → Type 0
Enters read from (Open start i) = EntersAt read from start i
Enters read from (Wait at) = EntersNone read from at

-- nothing that is whole is left: no header is read there, or the end of its interchange isn't known
abbrev pub IsLeft : List ℕ → ℕ → Option Inside → Type 0
IsLeft read at None = (q : ℕ) → at ≤ q → is_head read q ≡ false
IsLeft read at (Some i) = whole_end read at ≡ None

-- nor could it continue: all is read, or what is there isn't whole yet
abbrev pub IsFarthest : List ℕ → ℕ → Option Inside → Type 0
IsFarthest read at None = IsAsFar read at
IsFarthest read at (Some i) = IsShort read i.part.lead i.part.seen

-- these interchanges are whole, whatever follows; then none is
pub record Advances (read : List ℕ) (from : ℕ) (a : Advanced) : Type 0 where
  pub whole : List Extent
  pub chain : (more : List ℕ) → ChainUpTo (read ++ more) from a.scout.at whole
  pub count : a.count ≡ length whole
  pub few : a.count ≤ a.scout.at
  pub stands : Stands read a.scout.at a.scout.inside
  pub left : IsLeft read a.scout.at a.scout.inside
  pub farthest : IsFarthest read a.scout.at a.scout.inside
