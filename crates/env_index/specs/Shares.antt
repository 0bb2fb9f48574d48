-- X12.5, interchange: a text's headers in shares, each of which a thread reads, and what is read at one (own).
use Rattle.std.specs.Prelude.{◌≡◌, ℕ, ◌+◌, ◌≤◌, ◌<◌, false, not, List, ◌++◌, length, count_by, slice_range}
use Rattle.std.specs.List.{All}
use Rattle.hub_kinds.specs.declared.limits.TheConstants.{LONGEST_TEXT}
use Rattle.x12_bytes.specs.HeaderTest.{is_head}
use Rattle.isa_scan.specs.Heads.{heads_in}
use Rattle.isa_scan.specs.declared.heads.HeadAt.{HeadAt}
use Rattle.env_marks.specs.Marking.{MarksValue}
use Rattle.env_index.specs.Extents.{Extent, ChainFrom, count_outside, is_filler}
use Rattle.env_index.specs.Index.{IndexEntry, extents_of}
use Rattle.env_index.specs.Known.{AreMarks}
use Rattle.env_index.specs.Unjudged.{IsUnjudgedEntry}

-- all headers that begin between two offsets of a text, and none begins after `from` and before those
pub record AreHeadsFrom (text : List ℕ) (from : ℕ) (heads : List HeadAt) : Type 0 where
  pub since : ℕ
  pub to : ℕ
  pub order : since ≤ to
  pub within : to ≤ length text
  pub none : (q : ℕ) → from ≤ q → q < since → is_head text q ≡ false
  pub are : heads ≡ heads_in text since to

-- headers, and marks to read by, of a text that isn't too long
pub record IsShare (text : List ℕ) (from : ℕ) (heads : List HeadAt) (marks : List MarksValue) : Type 0 where
  pub few : length text ≤ LONGEST_TEXT
  pub within : from ≤ length text
  pub listed : AreHeadsFrom text from heads
  pub marked : All (AreMarks text) marks

-- interchanges, how many bytes are outside of them, and where the last one ends
pub record ShareValue : Type 0 where
  pub entries : List IndexEntry
  pub outside : ℕ
  pub end : ℕ

-- what is read from an offset on at some headers: whichever interchanges follow at its end, with those before them they are a chain,
-- and the bytes outside add up; each header is before the end
pub record IsReadAt (text : List ℕ) (from : ℕ) (heads : List HeadAt) (share : ShareValue) : Type 0 where
  pub within : share.end ≤ length text
  pub few : from + share.outside ≤ share.end
  pub many : from + length share.entries ≤ share.end
  pub entries : All (IsUnjudgedEntry text) share.entries
  pub chain : (xs : List Extent) → ChainFrom text share.end xs → ChainFrom text from (extents_of share.entries ++ xs)
  pub counted : (xs : List Extent) → ChainFrom text share.end xs
      → count_outside text from (extents_of share.entries ++ xs) ≡ share.outside + count_outside text share.end xs
  pub passed : All (λ h. h.start < share.end) heads

-- what was read at some headers, and at those from another offset on
abbrev pub joined : List ℕ → ShareValue → ℕ → ShareValue → ShareValue
joined text front cut back = record {
  entries = front.entries ++ back.entries;
  outside = front.outside + count_by (λ b. not (is_filler b)) (slice_range text front.end cut) + back.outside;
  end = back.end;
}
