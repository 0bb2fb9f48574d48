-- X12.5, interchange control header (ISA) of an interchange that is sent, without its number (ISA13): what is before that, and
-- what is after it.
use Rattle.std.specs.Prelude.{ℕ, ◌≡◌, List, [], ◌∷◌, ◌++◌, codes}
use Rattle.moment.specs.Moment.{IsMoment, short_date_of, time_of}
use Rattle.x12_write.specs.declared.envelope.Envelope.{Envelope}
use Rattle.x12_write.specs.Header.{blank, header_text, party_elements}
use Rattle.x12_write.specs.Number.{padded_number}
use Rattle.x12_write.specs.Segment.{elements_text}

-- its two ends
pub record HeaderEnds : Type 0 where
  pub front : List ℕ
  pub back : List ℕ

-- with a number in nine digits between them
abbrev pub numbered_header : HeaderEnds → ℕ → List ℕ
numbered_header h number = h.front ++ (padded_number 9 number ++ h.back)

-- they are those of this envelope and moment, whatever the number
pub record AreHeaderEnds (e : Envelope) (at : List ℕ) (h : HeaderEnds) : Type 0 where
  pub moment : IsMoment at
  pub text : (number : ℕ) → numbered_header h number ≡ header_text e at number

-- ISA01 to ISA04: no authorization and no security information
abbrev pub no_information : List (List ℕ)
no_information = codes "00" ∷ blank ∷ codes "00" ∷ blank ∷ []

-- ISA09 to ISA12
abbrev pub moment_elements : Envelope → (at : List ℕ) → List (List ℕ)
moment_elements e at = short_date_of at ∷ time_of at ∷ (e.repetition ∷ []) ∷ codes "00501" ∷ []

-- before the number (private, as what it is made of): the id, ISA01 to ISA12, and the separator after them
abbrev pub front_text : Envelope → (at : List ℕ) → List ℕ
front_text e at =
    codes "ISA" ++ elements_text e.delims.element (party_elements e ++ moment_elements e at) ++ e.delims.element ∷ []

-- after the number (private): ISA14 to ISA16, and the terminator
abbrev pub back_text : Envelope → List ℕ
back_text e =
    elements_text e.delims.element (codes "0" ∷ (e.usage ∷ []) ∷ (e.delims.component ∷ []) ∷ []) ++ e.delims.terminator ∷ []
