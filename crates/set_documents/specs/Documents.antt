-- X12.6, transaction set (own): which element of a set is shown as the number of its document.
use Rattle.std.specs.Prelude.{ℕ, List, [], ◌∷◌, Option, Some, None, find, if◌then◌else◌}
use Rattle.std.specs.Str.{bytes_eq}
use Rattle.x12_segs.specs.Words.{SegValue, element_of, id_of}

-- of sets with this ST01: this element of the first segment with this id
pub record DocumentValue : Type 0 where
  pub set : List ℕ
  pub segment : List ℕ
  pub element : ℕ

-- the first of these for an ST01
abbrev pub document_for : List DocumentValue → (identifier : List ℕ) → Option DocumentValue
document_for documents identifier = find (λ d. bytes_eq d.set identifier) documents

-- nothing where there isn't such a segment
abbrev pub number_in : DocumentValue → List SegValue → List ℕ
number_in d [] = []
number_in d (seg ∷ segs) = if bytes_eq (id_of seg) d.segment then element_of seg d.element else number_in d segs

abbrev pub number_by : Option DocumentValue → List SegValue → List ℕ
number_by None segs = []
number_by (Some d) segs = number_in d segs

-- of a set with this ST01, in these segments of it
abbrev pub document_number : List DocumentValue → (identifier : List ℕ) → List SegValue → List ℕ
document_number documents identifier segs = number_by (document_for documents identifier) segs
