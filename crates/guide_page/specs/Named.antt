-- The words of a names file on a page (own): beside ids, reference numbers and codes, each as a text.
use Rattle.std.specs.Prelude.{ℕ, Option, None, Some, List, [], ◌++◌, codes}
use Rattle.guide_names.specs.Names.{Words, code_name, element_name, set_name, set_note}
use Rattle.guide_page.specs.Tags.{code_part, tagged}

-- a name after an id or a number
abbrev pub name_part : Option (List ℕ) → List ℕ
name_part None = []
name_part (Some name) = tagged (codes " ") name []

-- the name of a code after it
abbrev pub code_name_part : Option (List ℕ) → List ℕ
code_name_part None = []
code_name_part (Some name) = tagged (codes "(") name (codes ") ")

abbrev pub paragraph_part : Option (List ℕ) → List ℕ
paragraph_part None = []
paragraph_part (Some text) = tagged (codes "<p>") text (codes "</p>\n")

-- an element's reference number and its name
abbrev pub reference_cell : Words → (reference : List ℕ) → List ℕ
reference_cell names reference =
    tagged (codes "<td>") reference [] ++ (name_part (element_name names reference) ++ codes "</td>")

-- a code of an element and its name
abbrev pub named_code : Words → (reference code : List ℕ) → List ℕ
named_code names reference code = code_part code ++ code_name_part (code_name names reference code)

-- the name of the set, and the note on it
abbrev pub set_words : Words → List ℕ
set_words names = paragraph_part (set_name names) ++ paragraph_part (set_note names)
