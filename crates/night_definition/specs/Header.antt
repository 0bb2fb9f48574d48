-- X12.5, ISA: an interchange header has 106 bytes.
use Rattle.std.specs.Prelude.{ℕ, ◌+◌, ◌-◌, ◌*◌, ◌==◌, nat_le, Bool, not, ◌&&◌, ◌||◌, List, [], ◌∷◌, length, take, fold, sum, codes}
use Rattle.std.specs.Prelude.{Option, Some, None, if◌then◌else◌, slice_index_or, slice_range, bytes_eq}
use Rattle.std.specs.List.{list_all, range_with_len, slice_split}
use Rattle.std.specs.Char.{is_ascii_digit, is_ascii_alphanumeric}
use Rattle.x12_bytes.specs.declared.delims.Delims.{Delims}

-- own: a delimiter is not an ASCII letter, digit or space; a separator is not CR or LF either
abbrev pub may_terminate : ℕ → Bool
may_terminate b = not (is_ascii_alphanumeric b || b == 32)

abbrev pub may_separate : ℕ → Bool
may_separate b = may_terminate b && not (b == 13 || b == 10)

-- the widths of ISA01 to ISA16, in bytes
abbrev pub widths : List ℕ
widths = 2 ∷ 10 ∷ 2 ∷ 10 ∷ 2 ∷ 15 ∷ 2 ∷ 15 ∷ 6 ∷ 4 ∷ 1 ∷ 5 ∷ 9 ∷ 1 ∷ 1 ∷ 1 ∷ []

-- the place of the element separator before element k: after ISA and k - 1 elements, each with its separator
abbrev pub separator_at : ℕ → ℕ
separator_at k = 3 + sum (take (k - 1) widths) + (k - 1)

-- element k of a header, from 1 to 16
abbrev pub field : ℕ → (header : List ℕ) → List ℕ
field k header =
    let start = separator_at k + 1 in
    slice_range header start (start + slice_index_or widths (k - 1) 0)

-- ISA11 is the repetition separator where it can be one and is none of the others (own)
abbrev pub repetition_of : (isa11 element component terminator : ℕ) → Option ℕ
repetition_of b e c t = if may_separate b && not (b == e || b == c || b == t) then Some b else None

abbrev pub delims_of : (header : List ℕ) → Delims
delims_of header = record {
  element = slice_index_or header 3 0;
  component = slice_index_or header 104 0;
  repetition = repetition_of (slice_index_or header 82 0) (slice_index_or header 3 0) (slice_index_or header 104 0)
      (slice_index_or header 105 0);
  terminator = slice_index_or header 105 0;
}

-- the delimiters differ and are allowed (own)
abbrev pub are_delims : Delims → Bool
are_delims d =
    (not (d.element == d.component) && (not (d.element == d.terminator) && not (d.component == d.terminator)))
    && (may_separate d.element && (may_separate d.component && may_terminate d.terminator))

-- element k follows a separator, and contains neither a separator nor a terminator
abbrev pub is_element_there : Delims → (header : List ℕ) → (k : ℕ) → Bool
is_element_there d header k =
    slice_index_or header (separator_at k) 0 == d.element
    && list_all (λ b. not (b == d.element) && not (b == d.terminator)) (field k header)

abbrev pub is_header : List ℕ → Bool
is_header header =
    length header == 106 && (bytes_eq (take 3 header) (codes "ISA") && (are_delims (delims_of header)
    && list_all (is_element_there (delims_of header) header) (range_with_len 1 16)))

abbrev pub header_at : (text : List ℕ) → (offset : ℕ) → List ℕ
header_at text offset = slice_range text offset (offset + 106)

-- a header begins at an offset of a text
abbrev pub is_head : (text : List ℕ) → (offset : ℕ) → Bool
is_head text offset = nat_le (offset + 106) (length text) && is_header (header_at text offset)

-- X12.6, N0 without a sign: the number written by 1 to `most` digits
abbrev pub number_of : (most : ℕ) → List ℕ → Option ℕ
number_of most text =
    if nat_le 1 (length text) && nat_le (length text) most && list_all is_ascii_digit text
    then Some (fold (λ n digit. 10 * n + (digit - 48)) 0 text) else None

-- a text of `least` to `most` letters and digits
abbrev pub is_word : (least most : ℕ) → List ℕ → Bool
is_word least most text = nat_le least (length text) && nat_le (length text) most && list_all is_ascii_alphanumeric text

-- a text divided at each occurrence of a byte
abbrev pub divided : ℕ → List ℕ → List (List ℕ)
divided separator text = slice_split (λ b. b == separator) text
