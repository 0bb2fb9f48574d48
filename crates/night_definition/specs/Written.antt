-- X12.5 and X12.6: the segments that are written, with the delimiters of the partner who gets them.
use Rattle.std.specs.Prelude.{ℕ, ◌-◌, List, [], ◌∷◌, ◌++◌, length, codes, decimal, replicate, take, flat_map, slice_range}
use Rattle.std.specs.Option.{option_map_or}
use Rattle.x12_bytes.specs.declared.delims.Delims.{Delims}
use Rattle.partner_setup.specs.declared.partner.Partner.{Partner}
use Rattle.partner_setup.specs.declared.rows.HubRow.{HubRow}
use Rattle.partner_setup.specs.declared.rows.Usage.{Usage}
use Rattle.partner_setup.specs.declared.rows.Usage.TheVariants as isa15
use Rattle.night_definition.specs.Segments.{Elements}

-- a number of at least `least` digits; a text of at least `least` bytes
abbrev pub padded_number : (least n : ℕ) → List ℕ
padded_number least n = replicate (least - length (decimal n)) 48 ++ decimal n

-- ST02 and SE02 of what is written
abbrev pub set_number : ℕ → List ℕ
set_number n = padded_number 4 n

abbrev pub padded_text : (least : ℕ) → List ℕ → List ℕ
padded_text least text = text ++ replicate (least - length text) 32

-- without empty elements at the end
abbrev pub trimmed : Elements → Elements
trimmed [] = []
trimmed (e ∷ es) = before e (trimmed es) where
  before : List ℕ → Elements → Elements
  before [] [] = []
  before e rest = e ∷ rest

-- a segment's id and elements, and its terminator
abbrev pub full_text : Delims → (id : List ℕ) → Elements → List ℕ
full_text d id elements = id ++ flat_map (λ e. d.element ∷ e) elements ++ d.terminator ∷ []

abbrev pub segment_text : Delims → (id : List ℕ) → Elements → List ℕ
segment_text d id elements = full_text d id (trimmed elements)

-- the moment CCYYMMDDHHMM: its date, its short date and its time
abbrev pub date_of : List ℕ → List ℕ
date_of at = take 8 at

abbrev pub short_date_of : List ℕ → List ℕ
short_date_of at = slice_range at 2 8

abbrev pub time_of : List ℕ → List ℕ
time_of at = slice_range at 8 12

abbrev pub usage_byte : Usage → ℕ
usage_byte isa15.Production = 80
usage_byte isa15.Test = 84

-- ISA from the hub to a partner, with all sixteen elements
abbrev pub isa_text : HubRow → Partner → (at : List ℕ) → (number : ℕ) → List ℕ
isa_text hub p at number =
    full_text p.delims (codes "ISA")
    (codes "00" ∷ replicate 10 32 ∷ codes "00" ∷ replicate 10 32
    ∷ hub.qualifier ∷ padded_text 15 hub.id ∷ p.qualifier ∷ padded_text 15 p.id
    ∷ short_date_of at ∷ time_of at ∷ (option_map_or (λ r. r) p.delims.repetition 85 ∷ []) ∷ codes "00501"
    ∷ padded_number 9 number ∷ codes "0" ∷ (usage_byte hub.usage ∷ []) ∷ (p.delims.component ∷ []) ∷ [])

abbrev pub iea_text : Delims → (groups number : ℕ) → List ℕ
iea_text d groups number = segment_text d (codes "IEA") (decimal groups ∷ padded_number 9 number ∷ [])

-- a group: its GS, its sets, its GE
abbrev pub group_text : Delims → (at : List ℕ) → (gs01 gs02 gs03 : List ℕ) → (control : ℕ) → (gs08 : List ℕ) → (sets : List (List ℕ))
    → List ℕ
group_text d at gs01 gs02 gs03 control gs08 sets =
    segment_text d (codes "GS") (gs01 ∷ gs02 ∷ gs03 ∷ date_of at ∷ time_of at ∷ decimal control ∷ codes "X" ∷ gs08 ∷ [])
    ++ flat_map (λ set. set) sets
    ++ segment_text d (codes "GE") (decimal (length sets) ∷ decimal control ∷ [])
