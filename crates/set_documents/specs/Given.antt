-- How the words of a program name such an element (own), as `850=BEG03`, and which are shown where they name none.
use Rattle.std.specs.Prelude.{ℕ, ◌-◌, ◌&&◌, List, [], ◌∷◌, Option, Some, None, length, take, drop, codes, nat_le}
use Rattle.std.specs.Prelude.{if◌then◌else◌}
use Rattle.std.specs.Str.{bytes_eq}
use Rattle.hub_kinds.specs.Words.{is_segment_id, is_word, number_of}
use Rattle.set_documents.specs.Documents.{DocumentValue}

abbrev pub document : (set segment : List ℕ) → (element : ℕ) → DocumentValue
document set segment element = record { set = set; segment = segment; element = element }

-- invoices, inventories, orders and their answers, notices, changes
abbrev pub usual : List DocumentValue
usual =
    document (codes "810") (codes "BIG") 2 ∷ document (codes "846") (codes "BIA") 3 ∷ document (codes "850") (codes "BEG") 3
    ∷ document (codes "855") (codes "BAK") 3 ∷ document (codes "856") (codes "BSN") 2 ∷ document (codes "860") (codes "BCH") 3 ∷ []

-- an element is counted from 1
abbrev pub document_by : (set segment : List ℕ) → Option ℕ → Option DocumentValue
document_by set segment None = None
document_by set segment (Some element) = if nat_le 1 element then Some (document set segment element) else None

-- three letters or digits, `=`, the id of a segment, and an element by two digits
abbrev pub document_of : (text : List ℕ) → Option DocumentValue
document_of text =
    if is_word 3 3 (take 3 text) && bytes_eq (take 1 (drop 3 text)) (codes "=") && is_segment_id (drop 4 (take (length text - 2) text))
    then document_by (take 3 text) (drop 4 (take (length text - 2) text)) (number_of 2 (drop (length text - 2) text)) else None

-- one before others, where all are such
abbrev pub with_first : Option DocumentValue → Option (List DocumentValue) → Option (List DocumentValue)
with_first None more = None
with_first (Some d) None = None
with_first (Some d) (Some ds) = Some (d ∷ ds)

-- those that texts name, in their order, and after them the usual ones
abbrev pub documents_of : List (List ℕ) → Option (List DocumentValue)
documents_of [] = Some usual
documents_of (text ∷ texts) = with_first (document_of text) (documents_of texts)

abbrev pub documents_given : Option (List (List ℕ)) → Option (List DocumentValue)
documents_given None = Some usual
documents_given (Some texts) = documents_of texts

-- the same after some that were read before (for inner clauses)
abbrev pub behind : List DocumentValue → Option (List DocumentValue) → Option (List DocumentValue)
behind [] more = more
behind (d ∷ ds) more = with_first (Some d) (behind ds more)
