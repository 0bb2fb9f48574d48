-- X12.6, segment terminator and transaction set (ST, SE), and the 997 (AK5): whether a text is cut off, and whether it is one that isn't
-- read (own).
use Rattle.std.specs.Prelude.{ℕ, ◌==◌, Bool, false, ◌&&◌, ◌||◌, not, List, [], ◌∷◌, codes, length, Option, None, Some, slice_index}
use Rattle.std.specs.Prelude.{if◌then◌else◌}
use Rattle.std.specs.Char.{is_ascii_alphanumeric}
use Rattle.std.specs.List.{list_any}
use Rattle.std.specs.Str.{bytes_eq}
use Rattle.night_definition.specs.Segments.{Elements, element, is_line_end}
use Rattle.night_definition.specs.ReadBack.{segments_in}
use Rattle.ack_read.specs.Words.{first_delims}
use Rattle.explain_command.specs.declared.ends.CutOff.{CutOff}
use Rattle.explain_command.specs.declared.ends.CutOff.TheVariants as cut
use Rattle.explain_command.specs.declared.ends.SetId.{SetId}

-- some byte but CR and LF is after the last terminator; or so it does at the begin, and no terminator follows
abbrev pub ends_open : (terminator : ℕ) → (is_open : Bool) → List ℕ → Bool
ends_open terminator is_open [] = is_open
ends_open terminator is_open (b ∷ bs) = ends_open terminator (not (b == terminator) && (is_open || not (is_line_end b))) bs

-- whether a set is begun after a segment with this id
abbrev pub stays_begun : (begun : Bool) → (id : List ℕ) → Bool
stays_begun begun id = bytes_eq id (codes "ST") || (begun && not (bytes_eq id (codes "SE")))

-- a set is begun, by an ST, and no SE follows
abbrev pub ends_in_set : (begun : Bool) → List Elements → Bool
ends_in_set begun [] = begun
ends_in_set begun (s ∷ ss) = ends_in_set (stays_begun begun (element 0 s)) ss

abbrev pub is_response : Elements → Bool
is_response s = bytes_eq (element 0 s) (codes "AK5")

-- the text has the response to a set that a 997 has, and a 999 doesn't
abbrev pub is_997 : (text : List ℕ) → Bool
is_997 text = list_any is_response (segments_in (first_delims text) text)

abbrev pub is_set : Elements → Bool
is_set s = bytes_eq (element 0 s) (codes "ST")

-- the id of a set is three letters or digits other than 999
abbrev pub is_other : (id : List ℕ) → Bool
is_other id =
    (length id == 3) && (is_ascii_alphanumeric (slice_index id 0) && (is_ascii_alphanumeric (slice_index id 1)
    && (is_ascii_alphanumeric (slice_index id 2) && not (bytes_eq id (codes "999")))))

abbrev pub other_id : (id : List ℕ) → Option SetId
other_id id =
    if is_other id then Some (record { first = slice_index id 0; second = slice_index id 1; third = slice_index id 2 }) else None

-- the id of the first set, if that isn't an acknowledgment
abbrev pub other_in : List Elements → Option SetId
other_in [] = None
other_in (s ∷ ss) = if is_set s then other_id (element 1 s) else other_in ss

abbrev pub other_set : (text : List ℕ) → Option SetId
other_set text = other_in (segments_in (first_delims text) text)

-- where a text is cut off: in a segment, or else in a 999
abbrev pub cut_of : (text : List ℕ) → Option CutOff
cut_of text =
    if ends_open (first_delims text).terminator false text then Some cut.InSegment
    else (if ends_in_set false (segments_in (first_delims text) text) then Some cut.In999 else None)
