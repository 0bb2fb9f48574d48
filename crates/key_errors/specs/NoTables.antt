-- TOML (own): what is said of bytes that write no table: a place in them, one cause, and what is there.
use Rattle.std.specs.Prelude.{◌≡◌, ◌≤◌, ◌⊎◌, ℕ, true, false, List, length}
use Rattle.std.specs.Str.{is_utf8}
use Rattle.std.specs.Str.Lossy.{utf8_valid_len}
use Rattle.key_errors.specs.TextPlaces.{said_at}
use Rattle.key_errors.specs.declared.words.TheConstants as say

-- bytes that are no UTF-8, where they stop to be it; and else a place in them and a cause, which are left open
abbrev pub IsNoTableSaid : (bytes text : List ℕ) → Type 0
IsNoTableSaid bytes text =
    ((is_utf8 bytes ≡ false) × (text ≡ said_at bytes (utf8_valid_len bytes) say.NO_UTF_8.now))
    ⊎ ((is_utf8 bytes ≡ true)
    × ((offset : ℕ) × (offset ≤ length bytes) × (cause : List ℕ) × (text ≡ said_at bytes offset cause)))
