-- Own: what the books have at each place of an index: its number where it was recorded. Private.
use Rattle.std.specs.Prelude.{◌≡◌, ℕ, ◌+◌, Bool, true, false, List, [], ◌∷◌, map, Option, Some, None, option_map, slice_get, get_or}
use Rattle.hub_kinds.specs.Words.{number_of}
use Rattle.hub_kinds.specs.declared.limits.TheConstants.{MOST_CONTROL_DIGITS}
use Rattle.hub_kinds.specs.declared.place.Place.{Place}
use Rattle.x12_bytes.specs.Header.{field_of}
use Rattle.x12_segs.specs.Words.{element_of}
use Rattle.env_index.specs.Words.{IndexEntry, place_at, GroupEntry}
use Rattle.env_index.specs.declared.entry.SetEnvelope.{SetEnvelope}
use Rattle.number_register.specs.Books.{book_at}
use Rattle.work_core.specs.Core.{was_recorded}
use denote.Ref.{Bor}

abbrev pub groups_at : Option IndexEntry → List GroupEntry
groups_at None = []
groups_at (Some e) = e.interchange.content.groups

abbrev pub sets_at : Option GroupEntry → List SetEnvelope
sets_at None = []
sets_at (Some g) = g.sets

-- the groups of an interchange, and the sets of a group, by number from 0; of what isn't there, none
abbrev pub groups_of : List IndexEntry → ℕ → List GroupEntry
groups_of es n = groups_at (slice_get es n)

abbrev pub sets_of : List IndexEntry → ℕ → ℕ → List SetEnvelope
sets_of es n k = sets_at (slice_get (groups_of es n) k)

-- a lent text
abbrev pub text_of : Bor (List ℕ) → List ℕ
text_of b = b.now

-- ISA05 to ISA08 and ISA13
abbrev pub fields_of : IndexEntry → List (List ℕ)
fields_of e =
    let header = e.interchange.header in
    field_of header 5 ∷ field_of header 6 ∷ field_of header 7 ∷ field_of header 8 ∷ field_of header 13 ∷ []

-- a text as a number: 0 for none, and 1 more than the number
abbrev pub code_of : Option ℕ → ℕ
code_of None = 0
code_of (Some n) = n + 1

-- ISA13 as a number, and then the fields
abbrev pub interchange_code : IndexEntry → ℕ × List (List ℕ)
interchange_code e = (code_of (number_of MOST_CONTROL_DIGITS (field_of e.interchange.header 13)), fields_of e)

abbrev pub InterchangeKey : Type 0
InterchangeKey = ℕ × Bor (List ℕ) × Bor (List ℕ) × Bor (List ℕ) × Bor (List ℕ) × Bor (List ℕ)

abbrev pub code_in : InterchangeKey → ℕ × List (List ℕ)
code_in key = (key.0, text_of key.1 ∷ text_of key.2 ∷ text_of key.3 ∷ text_of key.4 ∷ text_of key.5 ∷ [])

-- GS06 as a number
abbrev pub group_code : GroupEntry → ℕ
group_code group = code_of (number_of MOST_CONTROL_DIGITS (element_of group.header 6))

-- ST02
abbrev pub set_control : SetEnvelope → List ℕ
set_control set = element_of set.header 2

-- numbered from 1
abbrev pub interchange_place : ℕ → Place
interchange_place n = place_at (n + 1) 0 0

abbrev pub group_place : ℕ → ℕ → Place
group_place n k = place_at (n + 1) (k + 1) 0

abbrev pub set_place : ℕ → ℕ → ℕ → Place
set_place n k j = place_at (n + 1) (k + 1) (j + 1)

abbrev pub slot : {V : Type 0} → Bool → V → Option V
slot false v = None
slot true v = Some v

-- at each number's place there is its key where the place is recorded, and none elsewhere
abbrev pub AreSlots : {K V : Type 0} → (K → V) → List V → (ℕ → Place) → List Place → List (Option K) → Type 0
AreSlots {K} {V} read numbers at recorded keys = (j : ℕ) (v : V) → slice_get numbers j ≡ Some v
    → option_map (option_map read) (slice_get keys j) ≡ Some (slot (was_recorded recorded (at j)) v)

abbrev pub same_code : ℕ → ℕ
same_code n = n

pub record AreHeld (es : List IndexEntry) (recorded : List Place) (inter : List (Option (InterchangeKey)))
    (group : List (List (Option ℕ))) (set : List (List (List (Option (Bor (List ℕ)))))) : Type 0 where
  pub interchanges : AreSlots code_in (map interchange_code es) interchange_place recorded inter
  pub groups : (n : ℕ) → AreSlots same_code (map group_code (groups_of es n)) (group_place n) recorded (book_at group n)
  pub sets : (n k : ℕ) → AreSlots text_of (map set_control (sets_of es n k)) (set_place n k) recorded (book_at (get_or set n []) k)
