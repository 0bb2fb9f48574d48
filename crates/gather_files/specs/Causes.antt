-- X12.5, interchange control header (ISA): why a file isn't taken, by its first bytes (own).
use Rattle.std.specs.Prelude.{ℕ, ◌+◌, ◌-◌, Bool, not, ◌||◌, ◌==◌, List, [], ◌∷◌, length, take, drop, slice_index, slice_index_or, codes}
use Rattle.std.specs.Prelude.{if◌then◌else◌}
use Rattle.std.specs.List.{prefix_len, range_with_len}
use Rattle.std.specs.Str.{bytes_eq}
use Rattle.night_definition.specs.Header.{separator_at, widths}
use Rattle.x12_bytes.specs.declared.layout.TheConstants.{HEADER_LEN}
use Rattle.gather_files.specs.declared.cause.Cause.{Cause}
use Rattle.gather_files.specs.declared.cause.ElementLength.{ElementLength}
use Rattle.gather_files.specs.declared.cause.Cause.TheVariants as cause

-- whether a file begins with these bytes
abbrev pub begins : List ℕ → List ℕ → Bool
begins bytes file = bytes_eq (take (length bytes) file) bytes

-- gzip (RFC 1952) or a ZIP archive
abbrev pub is_compressed : List ℕ → Bool
is_compressed file = begins (31 ∷ 139 ∷ []) file || begins (80 ∷ 75 ∷ 3 ∷ 4 ∷ []) file

-- a byte order mark of UTF-16, or the letter I and NUL, before which another may have been left out
abbrev pub is_utf16 : List ℕ → Bool
is_utf16 file =
    begins (255 ∷ 254 ∷ []) file || (begins (254 ∷ 255 ∷ []) file || begins (73 ∷ 0 ∷ []) file)

abbrev pub is_other : (separator : ℕ) → ℕ → Bool
is_other separator b = not (b == separator)

-- how wide element k of a header is
abbrev pub width_of : (k : ℕ) → ℕ
width_of k = slice_index_or widths (k - 1) 0

-- how long element k of what should be a header is, up to the next separator
abbrev pub element_len : List ℕ → (k : ℕ) → ℕ
element_len file k = prefix_len (is_other (slice_index file 3)) (drop (separator_at k + 1) file)

abbrev pub is_wide : List ℕ → (k : ℕ) → Bool
is_wide file k = element_len file k == width_of k

-- the first of ISA01 to ISA15 that isn't as long as the standard says; 16 if each is
abbrev pub wrong_element : List ℕ → ℕ
wrong_element file = 1 + prefix_len (is_wide file) (range_with_len 1 15)

abbrev pub wrong_length : List ℕ → (k : ℕ) → ElementLength
wrong_length file k = record { element = k; len = element_len file k; width = width_of k }

-- why what begins with ISA isn't a header
abbrev pub header_cause : List ℕ → Cause
header_cause file =
    if length file == 3 || wrong_element file == 16 then cause.HeaderLength else cause.ElementLength
    (wrong_length file (wrong_element file))

-- why a file without its blanks, at whose front no header begins, isn't taken, by as many of its first bytes as a header has
abbrev pub cause_by : List ℕ → Cause
cause_by [] = cause.Empty
cause_by (b ∷ bs) =
    if is_compressed (b ∷ bs) then cause.Compressed
    else if is_utf16 (b ∷ bs) then cause.Utf16
    else if begins (codes "ISA") (b ∷ bs) then header_cause (b ∷ bs)
    else cause.NoHeader

abbrev pub cause_of : List ℕ → Cause
cause_of file = cause_by (take HEADER_LEN file)
