-- Whether a night was clean, by its report (own): nothing in it is refused or held, and nothing is outside interchanges.
use Rattle.std.specs.Prelude.{ℕ, ◌-◌, Bool, not, ◌&&◌, ◌||◌, List, [], ◌∷◌, slice_index_or, codes}
use Rattle.std.specs.List.{list_any}
use Rattle.std.specs.Str.{bytes_eq}
use Rattle.x12_segs.specs.Words.{parts}

abbrev pub all_but_last : List (List ℕ) → List (List ℕ)
all_but_last [] = []
all_but_last (part ∷ []) = []
all_but_last (part ∷ next ∷ more) = part ∷ all_but_last (next ∷ more)

-- the lines of a report: what LF ends; what comes after the last LF isn't a line
abbrev pub lines_of : (report : List ℕ) → List (List ℕ)
lines_of report = all_but_last (parts 10 report)

-- the last of some texts, and before there is any this one
abbrev pub last_behind : List ℕ → List (List ℕ) → List ℕ
last_behind last [] = last
last_behind last (text ∷ texts) = last_behind text texts

-- the last of some texts, and of none the empty one
abbrev pub last_of : List (List ℕ) → List ℕ
last_of texts = last_behind [] texts

-- the words of a line: what spaces divide
abbrev pub words_of : (line : List ℕ) → List (List ℕ)
words_of line = parts 32 line

-- word n of a line, counted from 1, is this one; a word that isn't there is the empty one
abbrev pub has_word : (line : List ℕ) → (n : ℕ) → (word : List ℕ) → Bool
has_word line n word = bytes_eq (slice_index_or (words_of line) (n - 1) []) word

-- a set that is held, an interchange that is refused, or a group of which a set is rejected
abbrev pub tells_of_trouble : (line : List ℕ) → Bool
tells_of_trouble line =
    has_word line 1 (codes "held")
    || has_word line 1 (codes "interchange") && has_word line 9 (codes "refused")
    || has_word line 1 (codes "group") && (has_word line 4 (codes "P") || has_word line 4 (codes "R"))

-- the last word is 0
abbrev pub ends_in_nought : (line : List ℕ) → Bool
ends_in_nought line = bytes_eq (last_of (words_of line)) (codes "0")

-- no line reports trouble, and the last one says that nothing is outside; a report without a line isn't clean
abbrev pub is_clean : (report : List ℕ) → Bool
is_clean report = not (list_any tells_of_trouble (lines_of report)) && ends_in_nought (last_of (lines_of report))
