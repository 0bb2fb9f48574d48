-- X12.5, interchange control header (ISA) of an interchange that is sent. The values of its elements are this hub's profile (own).
use Rattle.std.specs.Prelude.{ℕ, List, [], ◌∷◌, ◌++◌, codes, replicate}
use Rattle.moment.specs.Moment.{short_date_of, time_of}
use Rattle.x12_write.specs.declared.envelope.Envelope.{Envelope}
use Rattle.x12_write.specs.Segment.{full_segment_text}
use Rattle.x12_write.specs.Number.{padded_number, padded_text}

-- ten blanks
abbrev pub blank : List ℕ
blank = replicate 10 32

-- ISA01 to ISA08: the hub is the sender, the partner the receiver
abbrev pub party_elements : Envelope → List (List ℕ)
party_elements e =
    codes "00" ∷ blank ∷ codes "00" ∷ blank
    ∷ e.hub_qualifier ∷ padded_text 15 e.hub_id
    ∷ e.partner_qualifier ∷ padded_text 15 e.partner_id ∷ []

-- ISA09 to ISA16
abbrev pub control_elements : Envelope → List ℕ → ℕ → List (List ℕ)
control_elements e at number =
    short_date_of at ∷ time_of at
    ∷ (e.repetition ∷ []) ∷ codes "00501" ∷ padded_number 9 number
    ∷ codes "0" ∷ (e.usage ∷ []) ∷ (e.delims.component ∷ []) ∷ []

abbrev pub header_elements : Envelope → List ℕ → ℕ → List (List ℕ)
header_elements e at number = party_elements e ++ control_elements e at number

-- ISA: of fixed width, so nothing is left off
abbrev pub header_text : Envelope → List ℕ → ℕ → List ℕ
header_text e at number = full_segment_text e.delims (codes "ISA") (header_elements e at number)
