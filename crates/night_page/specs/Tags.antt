-- Pieces of a page (HTML): tags round texts that others chose.
use Rattle.std.specs.Prelude.{ℕ, List, ◌++◌, codes, decimal}
use Rattle.std.specs.List.{flat_map}
use Rattle.html_text.specs.Html.{html_text}

-- a text between two fixed ones
abbrev pub tagged : (before text after : List ℕ) → List ℕ
tagged before text after = before ++ (html_text text ++ after)

abbrev pub item : (text : List ℕ) → List ℕ
item text = tagged (codes "<li>") text (codes "</li>\n")

abbrev pub cell : (text : List ℕ) → List ℕ
cell text = tagged (codes "<td>") text (codes "</td>")

abbrev pub table_row : (texts : List (List ℕ)) → List ℕ
table_row texts = codes "<tr>" ++ (flat_map cell texts ++ codes "</tr>\n")

-- a number and what it counts
abbrev pub count_box : (label : List ℕ) → ℕ → List ℕ
count_box label n = codes "<div><dt>" ++ (label ++ (codes "</dt><dd>" ++ (decimal n ++ codes "</dd></div>\n")))

-- a column's head, and those of a table
abbrev pub head_cell : (name : List ℕ) → List ℕ
head_cell name = codes "<th scope=\"col\">" ++ (name ++ codes "</th>")

abbrev pub table_head : (names : List (List ℕ)) → List ℕ
table_head names = codes "<thead><tr>" ++ (flat_map head_cell names ++ codes "</tr></thead>\n<tbody>\n")
