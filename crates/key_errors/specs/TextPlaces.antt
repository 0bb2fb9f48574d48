-- Own: where in a file a byte is, by its line and its column, both from 1 on, and what is there. A line ends with a line feed; a
-- column counts bytes.
use Rattle.std.specs.Prelude.{ℕ, Bool, ◌+◌, ◌==◌, ◌||◌, ◌&&◌, ◌/◌, ◌%◌, List, [], ◌∷◌, ◌++◌, decimal, drop, length, nat_le, not}
use Rattle.std.specs.Prelude.{reverse, take, if◌then◌else◌}
use Rattle.std.specs.List.{count_by, flat_map, take_while}
use Rattle.setup_errors.specs.Sentences.{filled}
use Rattle.key_errors.specs.Shown.{digit}
use Rattle.key_errors.specs.declared.words.TheConstants as say

abbrev pub is_line_feed : ℕ → Bool
is_line_feed b = b == 10

-- one more than the line feeds before it
abbrev pub line_at : (bytes : List ℕ) → (offset : ℕ) → ℕ
line_at bytes offset = count_by is_line_feed (take offset bytes) + 1

-- how many bytes follow the last line feed
abbrev pub last_line_length : List ℕ → ℕ
last_line_length bytes = length (take_while (λ b. not (is_line_feed b)) (reverse bytes))

-- one more than the bytes before it in its line
abbrev pub column_at : (bytes : List ℕ) → (offset : ℕ) → ℕ
column_at bytes offset = last_line_length (take offset bytes) + 1

-- a byte that a line prints
abbrev pub is_printed : ℕ → Bool
is_printed b = nat_le 32 b && nat_le b 126

-- any other byte by its number, to the base 16
abbrev pub printed_byte : ℕ → List ℕ
printed_byte b = if is_printed b then b ∷ [] else 92 ∷ 120 ∷ digit (b / 16) ∷ digit (b % 16) ∷ []

abbrev pub is_in_line : ℕ → Bool
is_in_line b = not ((b == 10) || (b == 13))

-- at most this many bytes of a line are shown
abbrev pub MOST_SHOWN : ℕ
MOST_SHOWN = 40

-- what is at a place: the front of the rest of its line
abbrev pub standing : (bytes : List ℕ) → (offset : ℕ) → List ℕ
standing bytes offset = take MOST_SHOWN (take_while is_in_line (drop offset bytes))

-- where nothing is there, the line ends, or the file
abbrev pub standing_words : List ℕ → (rest : List ℕ) → List ℕ
standing_words [] [] = say.FILE_ENDS.now
standing_words [] (b ∷ bs) = say.LINE_ENDS.now
standing_words (b ∷ bs) rest = flat_map printed_byte (b ∷ bs)

abbrev pub place_words : (line column : ℕ) → List ℕ
place_words line column = filled say.LINE.now (decimal line ∷ decimal column ∷ [])

-- a place in a file, what is wrong there, and what is there
abbrev pub said_at : (bytes : List ℕ) → (offset : ℕ) → (text : List ℕ) → List ℕ
said_at bytes offset text =
    place_words (line_at bytes offset) (column_at bytes offset)
    ++ (text ++ (say.AFTER.now ++ standing_words (standing bytes offset) (drop offset bytes)))
