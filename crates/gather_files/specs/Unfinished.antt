-- X12.5, interchange control header and interchange: what bytes that come after a text can still change in it (own).
use Rattle.std.specs.Prelude.{◌≡◌, ◌≢◌, ℕ, ◌+◌, ◌-◌, ◌<◌, true, false, List, [], ◌++◌, length, drop, slice_index_or}
use Rattle.std.specs.List.{All}
use Rattle.night_definition.specs.Header.{divided, is_head}
use Rattle.night_definition.specs.Segments.{is_blank}
use Rattle.night_definition.specs.Interchanges.{Interchange, reach_at, text_of}

-- no header begins at `offset`, but more bytes can complete one there
pub record MayBegin (text : List ℕ) (offset : ℕ) : Type 0 where
  pub not_yet : is_head text offset ≡ false
  pub more : List ℕ
  pub completed : is_head (text ++ more) offset ≡ true

-- the interchange that begins at `offset` is open: with more bytes it ends elsewhere
pub record IsOpen (text : List ℕ) (offset : ℕ) : Type 0 where
  pub more : List ℕ
  pub elsewhere : (reach_at (text ++ more) offset).end ≢ (reach_at text offset).end

-- the bytes of `text` after its last terminator; all, if it has none
abbrev pub last_part : (terminator : ℕ) → List ℕ → List ℕ
last_part terminator text = let parts = divided terminator text in slice_index_or parts (length parts - 1) []

-- an interchange that continues to the end of `file` has CR and LF alone after its last terminator
abbrev pub EndsClosed : (file : List ℕ) → Interchange → Type 0
EndsClosed file x = x.end ≡ length file → is_blank (last_part x.delims.terminator (drop (x.start + 106) file)) ≡ true

-- a file that lacks nothing: it begins with a header, its interchanges end closed, and more bytes can complete no header in it
pub record LacksNothing (file : List ℕ) : Type 0 where
  pub begins : is_head file 0 ≡ true
  pub closed : All (EndsClosed file) (text_of file).interchanges
  pub no_header : (offset : ℕ) → offset < length file → MayBegin file offset → ⊥
