-- X12.5, interchange control header, and the 999 guide (005010X231): the acknowledgments of a text, read by the delimiters of its first
-- header; and which texts are none (own).
use Rattle.std.specs.Prelude.{◌≡◌, ◌≢◌, ℕ, true, false, List, [], ◌∷◌}
use Rattle.std.specs.List.{flat_map}
use Rattle.x12_bytes.specs.declared.delims.Delims.{Delims}
use Rattle.night_definition.specs.Header.{delims_of, header_at, is_head}
use Rattle.ack_read.specs.Responses.{Response}
use Rattle.ack_read.specs.Ta1s.{Ta1}
use Rattle.ack_read.specs.Told.{told_in}
use Rattle.ack_read.specs.declared.fault.ReadFault.{ReadFault}
use Rattle.ack_read.specs.declared.fault.ReadFault.TheVariants as fault
use Rattle.ack_read.specs.declared.told.Told.{Told}
use Rattle.ack_read.specs.declared.told.Told.TheVariants as told

-- the delimiters of the header that the text begins with
abbrev pub first_delims : (text : List ℕ) → Delims
first_delims text = delims_of (header_at text 0)

-- these are the acknowledgments of a text: it begins with a header, and reports an interchange, a set or a group
pub record AreToldBy (text : List ℕ) (found : List Told) : Type 0 where
  pub headed : is_head text 0 ≡ true
  pub told : found ≡ told_in (first_delims text) text
  pub some : found ≢ []

-- a text has none for one of these reasons
abbrev pub IsRefused : (text : List ℕ) → ReadFault → Type 0
IsRefused text fault.NoHeader = is_head text 0 ≡ false
IsRefused text fault.TellsNothing = (is_head text 0 ≡ true) × (told_in (first_delims text) text ≡ [])
IsRefused text fault.NoMemory = Unit {0}

-- the sets that are reported, as a receiver reads them
abbrev pub response_by : Told → List Response
response_by (told.OfInterchange t) = []
response_by (told.OfSet s) = record { identifier = s.identifier; control = s.control; code = s.code } ∷ []
response_by (told.OfGroup g) = []

abbrev pub responses_told : List Told → List Response
responses_told found = flat_map response_by found

-- the TA1s that are reported, as a receiver reads them
abbrev pub ta1_by : Told → List Ta1
ta1_by (told.OfInterchange t) = record { control = t.control; date = t.date; time = t.time; code = t.code; note = t.note } ∷ []
ta1_by (told.OfSet s) = []
ta1_by (told.OfGroup g) = []

abbrev pub ta1s_told : List Told → List Ta1
ta1s_told found = flat_map ta1_by found
