-- Pieces of a page (HTML): tags round texts of a guide, each of which is shown as a text.
use Rattle.std.specs.Prelude.{ℕ, List, [], ◌∷◌, ◌++◌, codes}
use Rattle.std.specs.List.{flat_map}
use Rattle.html_text.specs.Html.{html_bytes, html_text}

-- a text between two fixed ones
abbrev pub tagged : (before text after : List ℕ) → List ℕ
tagged before text after = before ++ (html_text text ++ after)

-- a code, an id or another text of a file
abbrev pub code_part : (text : List ℕ) → List ℕ
code_part text = tagged (codes "<code>") text (codes "</code> ")

abbrev pub codes_part : (texts : List (List ℕ)) → List ℕ
codes_part texts = flat_map code_part texts

abbrev pub cell : (text : List ℕ) → List ℕ
cell text = tagged (codes "<td>") text (codes "</td>")

-- a text of several lines
abbrev pub lines_cell : (text : List ℕ) → List ℕ
lines_cell text = codes "<td>" ++ (html_bytes text ++ codes "</td>")

-- the head of a row
abbrev pub row_head : (head : List ℕ) → List ℕ
row_head head = tagged (codes "<tr><th scope=\"row\">") head (codes "</th>")

abbrev pub row_end : List ℕ
row_end = codes "</tr>\n"

abbrev pub table_end : List ℕ
table_end = codes "</tbody>\n</table>\n"

abbrev pub whole_list : {X : Type 0} → (item : X → List ℕ) → List X → List ℕ
whole_list item xs = codes "<ul>\n" ++ (flat_map item xs ++ codes "</ul>\n")

-- items of a list; no list if there is none
abbrev pub list_part : {X : Type 0} → (item : X → List ℕ) → List X → List ℕ
list_part item [] = []
list_part item (x ∷ xs) = whole_list item (x ∷ xs)
