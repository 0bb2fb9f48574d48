-- A names file (own): the words for a guide, by the keys of the file's tables.
use Rattle.std.specs.Prelude.{ℕ, List, [], ◌∷◌, Option, None, Some, codes, option_and_then, if◌then◌else◌}
use Rattle.std.specs.Str.{bytes_eq}
use Rattle.toml.specs.Data.{Data, Members, as_str, as_table, get_member, no_members, member}

-- a key, and the text there; a key without a text is refused when a file is read
abbrev pub Entry : Type 0
Entry = List ℕ × Option (List ℕ)

-- the tables of a names file: of the set and of segments; of elements and of labels, by their keys
pub record Words : Type 0 where
  pub set : List Entry
  pub segments : List Entry
  pub elements : List (List ℕ × List Entry)
  pub labels : List (List ℕ × List Entry)

-- no words at all
abbrev pub no_words : Words
no_words = record { set = []; segments = []; elements = []; labels = [] }

-- the text at a key, if there is one
abbrev pub text_at : (key : List ℕ) → List Entry → Option (List ℕ)
text_at key [] = None
text_at key (e ∷ es) = if bytes_eq key e.0 then e.1 else text_at key es

-- the entries of the table at a key; none if there is no table
abbrev pub entries_at : (key : List ℕ) → List (List ℕ × List Entry) → List Entry
entries_at key [] = []
entries_at key (t ∷ ts) = if bytes_eq key t.0 then t.1 else entries_at key ts

-- the name of the set, and a note on it
abbrev pub set_name : Words → Option (List ℕ)
set_name words = text_at (codes "name") words.set

abbrev pub set_note : Words → Option (List ℕ)
set_note words = text_at (codes "note") words.set

-- the name of the segment with an id
abbrev pub segment_name : Words → (id : List ℕ) → Option (List ℕ)
segment_name words id = text_at id words.segments

-- the name of the element with a reference number
abbrev pub element_name : Words → (reference : List ℕ) → Option (List ℕ)
element_name words reference = text_at (codes "name") (entries_at reference words.elements)

-- the name of a code of that element; `name` is the key of the element's own name
abbrev pub code_name : Words → (reference code : List ℕ) → Option (List ℕ)
code_name words reference code = text_at code (entries_at reference words.elements)

-- the note on the segment with a label
abbrev pub label_note : Words → (label : List ℕ) → Option (List ℕ)
label_note words label = text_at (codes "note") (entries_at label words.labels)

-- the tables of a file
abbrev pub texts_of : Members → List Entry
texts_of no_members = []
texts_of (member key d ms) = (key, as_str d) ∷ texts_of ms

abbrev pub members_or_none : Option Members → Members
members_or_none None = no_members
members_or_none (Some ms) = ms

abbrev pub inner : Data → List Entry
inner d = texts_of (members_or_none (as_table d))

abbrev pub tables_of : Members → List (List ℕ × List Entry)
tables_of no_members = []
tables_of (member key d ms) = (key, inner d) ∷ tables_of ms

-- what the table at a key has; nothing if there is no table
abbrev pub inside : (key : List ℕ) → Members → Members
inside key ms = members_or_none (option_and_then as_table (get_member key ms))

-- the words that a file's table has
abbrev pub words_of : Members → Words
words_of ms = record {
  set = texts_of (inside (codes "set") ms);
  segments = texts_of (inside (codes "segment") ms);
  elements = tables_of (inside (codes "element") ms);
  labels = tables_of (inside (codes "label") ms);
}
