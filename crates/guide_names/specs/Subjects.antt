-- What a names file has words for (own): segments, elements, codes and labels, each as a text that says which.
use Rattle.std.specs.Prelude.{ℕ, List, [], ◌∷◌, ◌++◌, codes, if◌then◌else◌}
use Rattle.std.specs.List.{flat_map}
use Rattle.std.specs.Str.{bytes_eq}
use Rattle.guide_names.specs.Names.{Entry, Words}

abbrev pub segment_subject : (id : List ℕ) → List ℕ
segment_subject id = codes "segment " ++ id

abbrev pub element_subject : (reference : List ℕ) → List ℕ
element_subject reference = codes "element " ++ reference

abbrev pub code_subject : (reference code : List ℕ) → List ℕ
code_subject reference code = codes "code " ++ (code ++ (codes " of element " ++ reference))

abbrev pub label_subject : (label : List ℕ) → List ℕ
label_subject label = codes "label " ++ label

abbrev pub of_segment : Entry → List (List ℕ)
of_segment e = segment_subject e.0 ∷ []

-- the key of the element's own name is no code
abbrev pub of_key : (reference key : List ℕ) → List (List ℕ)
of_key reference key = if bytes_eq key (codes "name") then [] else code_subject reference key ∷ []

abbrev pub of_code : (reference : List ℕ) → Entry → List (List ℕ)
of_code reference e = of_key reference e.0

-- an element, and its codes
abbrev pub of_element : List ℕ × List Entry → List (List ℕ)
of_element e = element_subject e.0 ∷ flat_map (of_code e.0) e.1

abbrev pub of_label : List ℕ × List Entry → List (List ℕ)
of_label l = label_subject l.0 ∷ []

-- all that has words
abbrev pub subjects : Words → List (List ℕ)
subjects words = flat_map of_segment words.segments ++ (flat_map of_element words.elements ++ flat_map of_label words.labels)
