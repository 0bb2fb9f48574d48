-- X12.5, interchange control header (ISA): what comes before the first header of a file, or fills its end, and is left out (own).
use Rattle.std.specs.Prelude.{ℕ, Bool, not, ◌&&◌, ◌||◌, ◌==◌, ◌-◌, List, drop, length, take}
use Rattle.std.specs.List.{prefix_len, suffix_len}
use Rattle.night_definition.specs.Header.{delims_of, header_at}

-- NUL or Ctrl-Z, with which some systems fill a file
abbrev pub is_padding : ℕ → Bool
is_padding b = b == 0 || b == 26

-- a space, a tab, CR, LF, a byte of the byte order mark of UTF-8, NUL, or Ctrl-Z
abbrev pub is_blank : ℕ → Bool
is_blank b = b == 32 || (b == 9 || (b == 13 || (b == 10 || (b == 239 || (b == 187 || (b == 191 || is_padding b))))))

-- a file without the blanks at its front
abbrev pub led : List ℕ → List ℕ
led file = drop (prefix_len is_blank file) file

-- such a byte isn't padding where it is the terminator
abbrev pub pads : (terminator : ℕ) → ℕ → Bool
pads terminator b = is_padding b && not (b == terminator)

-- bytes without the padding at their end
abbrev pub unpadded : (terminator : ℕ) → List ℕ → List ℕ
unpadded terminator bytes = take (length bytes - suffix_len (pads terminator) bytes) bytes

-- a file from its first header on, without the padding at its end
abbrev pub body_of : List ℕ → List ℕ
body_of file = unpadded (delims_of (header_at (led file) 0)).terminator (led file)
