-- X12.5, interchange: a file, and what is put after it (own).
use Rattle.std.specs.Prelude.{ℕ, ◌≡◌, ◌<◌, ◌≤◌, ◌⊎◌, true, false, List, [], ◌∷◌, ◌++◌, length, drop, slice_index, None}
use Rattle.std.specs.List.{All}
use Rattle.memchr.specs.Find.{IsFirstByte, is_byte}
use Rattle.x12_bytes.specs.HeaderTest as then_test
use Rattle.x12_bytes.specs.declared.layout.TheConstants.{HEADER_LEN}
use Rattle.whole_interchanges.specs.Begun.{may_begin}
use Rattle.gather_files.specs.Gathered.{HoldsInterchanges, IsClosedFile}
use Rattle.night_definition.specs.Header.{delims_of, header_at, is_head}
use Rattle.night_definition.specs.Segments.{is_line_end}
use Rattle.gather_files.specs.EndsByLayers.{EndsByLayers}
use Rattle.gather_files.specs.declared.closing.Closed.{Closed}
use Rattle.gather_files.specs.declared.closing.OpenInterchange.{OpenInterchange}
use Rattle.gather_files.specs.declared.gather.End.{End}
use Rattle.gather_files.specs.declared.gather.End.TheVariants as end

-- the terminator of an interchange of the file
abbrev pub IsOwnTerminator : List ℕ → ℕ → Type 0
IsOwnTerminator file b =
    (start : ℕ) × (is_head file start ≡ true) × (b ≡ (delims_of (header_at file start)).terminator)

-- this many bytes more: spaces and its own terminators
pub record PutsBehind (old new : List ℕ) (count : ℕ) : Type 0 where
  pub rest : List ℕ
  pub is : new ≡ old ++ rest
  pub few : length rest ≡ count
  pub own : All (λ b. (b ≡ 32) ⊎ IsOwnTerminator new b) rest

-- a file as it goes in: without the CR and LF at its end, if something is put there, and with this many bytes more
pub record Closes (file closed : List ℕ) (count : ℕ) : Type 0 where
  pub kept : List ℕ
  pub ends : List ℕ
  pub file_is : file ≡ kept ++ ends
  pub line_ends : All (λ b. is_line_end b ≡ true) ends
  pub puts : PutsBehind kept closed count
  pub untouched : count ≡ 0 → ends ≡ []

-- this many bytes in place of CR and LF, at least one
pub record PutsInPlace (kept new : List ℕ) (count : ℕ) : Type 0 where
  pub header : HEADER_LEN ≤ length kept
  pub some : 1 ≤ count
  pub puts : PutsBehind kept new count

-- as a file ends after which nothing is put: with its last interchange, or in one that lacks no terminator
abbrev pub IsUntouched : End → Type 0
IsUntouched end.Whole = Unit {0}
IsUntouched end.CutOff = Unit {0}
IsUntouched (end.OtherSeparator separators) = Unit {0}
IsUntouched end.Mended = ⊥
IsUntouched end.CutInHeader = ⊥

-- Private from here on: what is held of a file at its end.

-- no header can turn out to begin in it, and its interchanges are closed
pub record IsHeldApart (held : List ℕ) : Type 0 where
  pub ends : (q : ℕ) → q < length held → may_begin held q ≡ false
  pub closed : IsClosedFile held

-- then it stays as it is
abbrev pub StaysApart : List ℕ → Closed → Type 0
StaysApart held c = IsHeldApart held → (c.count ≡ 0) × IsUntouched c.end

-- it goes in so closed: as it is and with bytes after it, or without its CR and LF and with more than nothing in their place, where a
-- header is before
pub record IsClosedSo (held kept : List ℕ) (c : Closed) : Type 0 where
  pub holds : HoldsInterchanges c.bytes.items c.interchanges
  pub some : c.interchanges ≤ length c.bytes.items
  pub ends : EndsByLayers held c.bytes.items c.count c.end
  pub whole : c.end ≡ end.Whole → c.count ≡ 0
  pub few : c.count ≤ 17
  pub puts : PutsBehind held c.bytes.items c.count ⊎ PutsInPlace kept c.bytes.items c.count

-- the terminator of its open interchange closes it
pub record IsClosedBy (file : List ℕ) (last : OpenInterchange) : Type 0 where
  pub own : IsOwnTerminator file last.terminator
  pub holds : HoldsInterchanges (file ++ last.terminator ∷ []) last.number
  pub few : last.number ≤ length file

-- from here to the end there is one segment, which no terminator ends, and at which no header can turn out to begin
pub record IsLastSegment (file : List ℕ) (t lead : ℕ) : Type 0 where
  pub within : lead < length file
  pub other : is_line_end (slice_index file lead) ≡ false
  pub none : IsFirstByte (is_byte t) (drop lead file) None
  pub no_head : then_test.is_head file lead ≡ false
  pub none_begins : may_begin file lead ≡ false
