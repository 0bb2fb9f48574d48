-- Own: the words of a code, found by its text in a table of `src/words.rt`.
use Rattle.std.specs.Prelude.{◌≡◌, ℕ, Bool, true, List, [], ◌∷◌, if◌then◌else◌}
use Rattle.std.specs.List.{list_any}
use Rattle.std.specs.Str.{bytes_eq}
use Rattle.hub_kinds.specs.Words.{acknowledgment_code}
use Rattle.ack_lines.specs.declared.words.TheConstants as table

-- the words of the first row with the code, or else those of none
abbrev pub words_by : {Row : Type 0} → (code_of words_of : Row → List ℕ) → List Row → (code : List ℕ) → List ℕ
words_by code_of words_of [] code = table.UNKNOWN.now
words_by code_of words_of (row ∷ rows) code =
    if bytes_eq (code_of row) code then words_of row else words_by code_of words_of rows code

-- the words of each code, by its text
abbrev pub segment_said : (code : List ℕ) → List ℕ
segment_said code = words_by (λ row. row.0.now) (λ row. row.1.now) table.SEGMENT_WORDS code

abbrev pub element_said : (code : List ℕ) → List ℕ
element_said code = words_by (λ row. row.0.now) (λ row. row.1.now) table.ELEMENT_WORDS code

abbrev pub set_said : (code : List ℕ) → List ℕ
set_said code = words_by (λ row. row.0.now) (λ row. row.1.now) table.SET_WORDS code

abbrev pub set_verdict_said : (code : List ℕ) → List ℕ
set_verdict_said code = words_by (λ row. row.0.now) (λ row. row.1.now) table.SET_VERDICT_WORDS code

abbrev pub group_said : (code : List ℕ) → List ℕ
group_said code = words_by (λ row. row.0.now) (λ row. row.1.now) table.GROUP_WORDS code

abbrev pub group_verdict_said : (code : List ℕ) → List ℕ
group_verdict_said code = words_by (λ row. row.0.now) (λ row. row.1.now) table.GROUP_VERDICT_WORDS code

abbrev pub note_said : (code : List ℕ) → List ℕ
note_said code = words_by (λ row. row.0.now) (λ row. row.1.now) table.NOTE_WORDS code

abbrev pub interchange_said : (code : List ℕ) → List ℕ
interchange_said code = words_by (λ row. row.0.now) (λ row. row.1.now) table.INTERCHANGE_WORDS code

abbrev pub is_worded : {Row : Type 0} → (code_of : Row → List ℕ) → List Row → (code : List ℕ) → Bool
is_worded code_of rows code = list_any (λ row. bytes_eq (code_of row) code) rows

-- X12.5, interchange acknowledgment (TA1): a note that has words, as the code beside it has
pub record IsToldNote (note : List ℕ) : Type 0 where
  pub written : is_worded (λ row. row.0.now) table.NOTE_WORDS note ≡ true
  pub beside : is_worded (λ row. row.0.now) table.INTERCHANGE_WORDS (acknowledgment_code note) ≡ true
