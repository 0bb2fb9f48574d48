-- X12.5, interchange control number (ISA13), and X12.6, group and set control numbers (GS06, ST02): which places of a text's index have
-- one number, and the first use of it (own).
use Rattle.std.specs.Prelude.{◌≡◌, ℕ, ◌+◌, List, [], ◌∷◌, ◌++◌, Bool, ◌&&◌, Option, is_none, Contains, if◌then◌else◌, true, false}
use Rattle.std.specs.Ordering.{nat_cmp, is_lt}
use Rattle.std.specs.Cmp.Lexicographic.{slice_cmp}
use Rattle.x12_bytes.specs.Header.{field_of}
use Rattle.x12_segs.specs.Words.{element_of}
use Rattle.hub_kinds.specs.Words.{number_of, place_key}
use Rattle.hub_kinds.specs.declared.limits.TheConstants.{MOST_CONTROL_DIGITS}
use Rattle.hub_kinds.specs.declared.place.Place.{Place}
use Rattle.env_index.specs.declared.entry.SetEnvelope.{SetEnvelope}
use Rattle.env_index.specs.Faults.{fault_of}
use Rattle.env_index.specs.Interchange.{InterchangeEntry}
use Rattle.env_index.specs.Summary.{GroupEntry}

-- a number: ISA05 to ISA08 with ISA13; an interchange with GS06 as a number; a group of an interchange with ST02 as text
pub data Number : Type 0 where
  OfInterchange : (fields : List (List ℕ)) → Number
  OfGroup : (isa : ℕ) → (control : Option ℕ) → Number
  OfSet : (isa gs : ℕ) → (control : List ℕ) → Number

-- a place of the index, and its number
pub record Numbered : Type 0 where
  pub place : Place
  pub number : Number

abbrev pub place_at : ℕ → ℕ → ℕ → Place
place_at isa gs st = record { isa = isa; gs = gs; st = st }

abbrev pub interchange_number : List ℕ → Number
interchange_number header =
    OfInterchange (field_of header 5 ∷ field_of header 6 ∷ field_of header 7 ∷ field_of header 8 ∷ field_of header 13 ∷ [])

-- the sets of a group, this one being the next
abbrev pub set_numbers_from : (isa gs st : ℕ) → List SetEnvelope → List Numbered
set_numbers_from isa gs st [] = []
set_numbers_from isa gs st (set ∷ sets) =
    record { place = place_at isa gs st; number = OfSet isa gs (element_of set.header 2) } ∷ set_numbers_from isa gs (st + 1) sets

-- the groups of an interchange, each before its sets
abbrev pub group_numbers_from : (isa gs : ℕ) → List GroupEntry → List Numbered
group_numbers_from isa gs [] = []
group_numbers_from isa gs (group ∷ groups) =
    record { place = place_at isa gs 0; number = OfGroup isa (number_of MOST_CONTROL_DIGITS (element_of group.header 6)) }
    ∷ (set_numbers_from isa gs 1 group.sets ++ group_numbers_from isa (gs + 1) groups)

-- an interchange has places where it has none of the faults 1 to 7 and its sender is known (fault 8)
abbrev pub is_indexed : (List ℕ → Bool) → InterchangeEntry → Bool
is_indexed knows x = is_none (fault_of x) && knows x.header

-- the places of an interchange that has some
abbrev pub kept_places : Bool → ℕ → InterchangeEntry → List Numbered
kept_places is_kept isa x =
    if is_kept
    then record { place = place_at isa 0 0; number = interchange_number x.header } ∷ group_numbers_from isa 1 x.content.groups
    else []

abbrev pub interchange_places : (List ℕ → Bool) → ℕ → InterchangeEntry → List Numbered
interchange_places knows isa x = kept_places (is_indexed knows x) isa x

-- the places of the interchanges of a text, in its order; each interchange is counted, also one without places
abbrev pub places_from : (List ℕ → Bool) → ℕ → List InterchangeEntry → List Numbered
places_from knows isa [] = []
places_from knows isa (x ∷ xs) = interchange_places knows isa x ++ places_from knows (isa + 1) xs

abbrev pub index_places : (List ℕ → Bool) → List InterchangeEntry → List Numbered
index_places knows xs = places_from knows 1 xs

-- a place comes before another one
abbrev pub is_before : Place → Place → Bool
is_before a b = is_lt (slice_cmp nat_cmp (place_key a) (place_key b))

-- of a list of numbered places: the second place has the number of the first, is before it, and no other with it is before that
pub record IsFirstUse (places : List Numbered) (p q : Place) : Type 0 where
  pub number : Number
  pub mine : Contains places (record { place = p; number = number })
  pub its : Contains places (record { place = q; number = number })
  pub before : is_before q p ≡ true
  pub least : (r : Place) → Contains places (record { place = r; number = number }) → is_before r q ≡ false

-- the first use of a place's number, where that is earlier
abbrev pub IsEarlier : (List ℕ → Bool) → List InterchangeEntry → Place → Place → Type 0
IsEarlier knows xs p q = IsFirstUse (index_places knows xs) p q
