-- What a page says of the files of a night's day (own): the lines of its files.txt, and which of them are something to do.
use Rattle.std.specs.Prelude.{ℕ, ◌-◌, ◌==◌, ◌||◌, eqb, not, Bool, List, [], ◌++◌, Option, Some, None, codes, decimal, filter}
use Rattle.std.specs.Prelude.{if◌then◌else◌, length, take}
use Rattle.std.specs.Char.{is_ascii_digit}
use Rattle.std.specs.List.{count_by, ends_with, flat_map, list_any, slice_split, suffix_len}
use Rattle.night_page.specs.Names.{is_filled}
use Rattle.night_page.specs.Tags.{item}

-- the lines of a text that have a byte
abbrev pub lines_in : (text : List ℕ) → List (List ℕ)
lines_in text = filter is_filled (slice_split (λ b. b == 10) text)

-- a night without the file has no line
abbrev pub lines_of : Option (List ℕ) → List (List ℕ)
lines_of None = []
lines_of (Some text) = lines_in text

-- a line without the digits at its end
abbrev pub without_number : (line : List ℕ) → List ℕ
without_number line = take (length line - suffix_len is_ascii_digit line) line

-- the line on a file that went in whole: it ends with how many bytes were before it, or says which terminator its end lacked
abbrev pub is_whole : (line : List ℕ) → Bool
is_whole line =
    ends_with eqb (without_number line) (codes " bytes at ") || ends_with eqb line (codes ", with the terminator that its end lacked")

abbrev pub is_short : (line : List ℕ) → Bool
is_short line = not (is_whole line)

-- no file is set aside, and each is whole
abbrev pub are_whole : (lines : List (List ℕ)) → Bool
are_whole lines = not (list_any is_short lines)

abbrev pub short_item : (line : List ℕ) → List ℕ
short_item line = if is_short line then item line else []

-- what there is to do because of files
abbrev pub short_part : (lines : List (List ℕ)) → List ℕ
short_part lines =
    codes "<details class=\"todo\"><summary>Files that are set aside, or that aren't whole: see each line ("
    ++ (decimal (count_by is_short lines) ++ (codes ")</summary>\n<ul>\n" ++ (flat_map short_item lines ++ codes "</ul></details>\n")))

abbrev pub aside_part : (lines : List (List ℕ)) → List ℕ
aside_part lines = if are_whole lines then [] else short_part lines

-- the lines on all files
abbrev pub all_part : (lines : List (List ℕ)) → List ℕ
all_part lines =
    codes "<h2>Files of the day</h2>\n<details><summary>All (" ++ (decimal (length lines)
    ++ (codes ")</summary>\n<ul>\n" ++ (flat_map item lines ++ codes "</ul></details>\n")))

-- the section on the files of the day, if the night has lines on them
abbrev pub files_part : Option (List ℕ) → List ℕ
files_part None = []
files_part (Some text) = all_part (lines_in text)
