-- X12.5, acknowledgment requested (ISA14) and interchange acknowledgment (TA1): which interchanges are answered with a TA1, and with
-- which note. That one without a group is answered only where it is refused is own.
use Rattle.std.specs.Prelude.{ℕ, List, length, codes, Bool, ◌&&◌, ◌||◌, nat_le, Option, None, is_some, if◌then◌else◌}
use Rattle.std.specs.Str.{bytes_eq}
use Rattle.x12_bytes.specs.Header.{field_of}
use Rattle.moment.specs.Calendar.{is_digits}
use Rattle.hub_kinds.specs.Words.{note_text}
use Rattle.hub_kinds.specs.declared.interchange.InterchangeFault.{InterchangeFault}
use Rattle.env_index.specs.Words.{InterchangeEntry}

-- what a TA1 repeats is digits: ISA13, ISA09 and ISA10
abbrev pub is_repeatable : (header : List ℕ) → Bool
is_repeatable header = is_digits (field_of header 13) && is_digits (field_of header 9) && is_digits (field_of header 10)

-- ISA14 is 1, and there is a group, FA included
abbrev pub asks_for_ta1 : InterchangeEntry → Bool
asks_for_ta1 x = bytes_eq (field_of x.header 14) (codes "1") && nat_le 1 (length x.content.groups)

-- an interchange from a partner at this place, with its fault if it is refused: what is repeated is digits, and it is refused or asks
abbrev pub is_answered : (sender : Option ℕ) → Option InterchangeFault → InterchangeEntry → Bool
is_answered sender fault x = is_some sender && is_repeatable x.header && (is_some fault || asks_for_ta1 x)

-- the note that it is answered with
abbrev pub ta1_note : (sender : Option ℕ) → Option InterchangeFault → InterchangeEntry → Option (List ℕ)
ta1_note sender fault x = if is_answered sender fault x then note_text fault else None
