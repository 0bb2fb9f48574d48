-- 999 guide (005010X231), copy of bad data element (IK404): which bytes are shown of a text in error.
use Rattle.std.specs.Prelude.{ℕ, Bool, not, ◌&&◌, nat_le, List, [], take, if◌then◌else◌}
use Rattle.std.specs.List.{list_all}
use Rattle.x12_bytes.specs.declared.delims.Delims.{Delims}
use Rattle.x12_write.specs.Delimiters.{is_delimiter}

-- a byte that prints, and no delimiter of the acknowledgment (own)
abbrev pub may_be_copied : Delims → ℕ → Bool
may_be_copied d b = nat_le 32 b && nat_le b 126 && not (is_delimiter d b)

-- a text of such bytes, all of it judged, is shown up to its 99th; any other isn't
abbrev pub copy_text : Delims → List ℕ → List ℕ
copy_text d text = if list_all (may_be_copied d) text then take 99 text else []
