-- The segments around the acknowledgments that a partner of a setup is sent: they are written and read again as segments.
use Rattle.std.proofs.Common.{◌≡◌, ◌≢◌, ℕ, ◌-◌, true, false, ◌&&◌, nat_le, List, [], ◌∷◌, ◌++◌, length, Option, Some, None}
use Rattle.std.proofs.Common.{drop, rules, tests, refl, sym, ap, arith, slice_index}
use Rattle.std.specs.Prelude.{codes, decimal, replicate, Bool, if◌then◌else◌}
use Rattle.std.specs.Str.{bytes_eq}
use Rattle.std.specs.List.{All, list_all}
use Rattle.std.specs.Char.{IsAsciiDigit, is_ascii_alphanumeric}
use Rattle.std.specs.Option.{option_map_or}
use Rattle.std.proofs.lemmas.Bool.{and_parts, false≢true}
use Rattle.std.proofs.lemmas.List.Elements.{All-append, All-cons, All-drop, All-from_recursion, All-head, All-nil}
use Rattle.std.proofs.lemmas.List.Elements.{All-replicate, All-take, All-weaker}
use Rattle.x12_bytes.specs.declared.delims.Delims.{Delims}
use Rattle.x12_bytes.specs.Header.{field_of}
use Rattle.moment.specs.Calendar.{is_digits}
use Rattle.moment.proofs.ForAbove.{digits_decided}
use Rattle.hub_kinds.specs.Words.{acknowledgment_code, is_word}
use Rattle.moment.specs.Moment.{IsMoment, date_of, short_date_of, time_of}
use Rattle.x12_write.specs.declared.envelope.Envelope.{Envelope}
use Rattle.x12_write.specs.Header.{blank, control_elements, header_elements, header_text, party_elements}
use Rattle.x12_write.specs.Number.{padded_number, padded_text}
use Rattle.x12_write.specs.Segment.{WrittenSegment, full_segment_text, segment, segment_text}
use Rattle.x12_write.specs.Sendable.{IsSendable}
use Rattle.x12_write.specs.Undivided.{CanDivide, IsUndivided}
use Rattle.x12_write.proofs.ForAbove.{decimal-undivided, is_plain, padded_number-undivided, plain-undivided, trimmed-push_full}
use Rattle.ack_999.proofs.ForAbove.{IsReadable, readable}
use Rattle.partner_setup.specs.declared.partner.Partner.{Partner}
use Rattle.partner_setup.specs.Envelopes.{envelope_to}
use Rattle.partner_setup.specs.Setup.{SetupValue}
use Rattle.partner_setup.specs.Sound.{IsSoundPartner}
use Rattle.partner_setup.specs.SetupFaults.{are_delimiters, are_ids, is_id, is_inner, is_outer, may_end}
use Rattle.partner_setup.proofs.ForAbove.{ends, four, undivided, sendable}

-- the ISA as a segment
abbrev pub isa : Envelope → (at : List ℕ) → (number : ℕ) → WrittenSegment
isa e at number = segment (codes "ISA") (header_elements e at number)

-- the GS, the GE and the IEA
abbrev pub gs_elements : Envelope → (at : List ℕ) → (control : ℕ) → List (List ℕ)
gs_elements e at control =
    codes "FA" ∷ e.hub_code ∷ e.partner_code ∷ date_of at ∷ time_of at ∷ decimal control ∷ codes "X" ∷ codes "005010X231" ∷ []

abbrev pub gs : Envelope → (at : List ℕ) → (control : ℕ) → WrittenSegment
gs e at control = segment (codes "GS") (gs_elements e at control)

abbrev pub ge : (reports control : ℕ) → WrittenSegment
ge reports control = segment (codes "GE") (decimal reports ∷ decimal control ∷ [])

abbrev pub iea : (groups number : ℕ) → WrittenSegment
iea groups number = segment (codes "IEA") (decimal groups ∷ padded_number 9 number ∷ [])

-- the TA1
abbrev pub ta1_elements : (header note : List ℕ) → List (List ℕ)
ta1_elements header note = field_of header 13 ∷ field_of header 9 ∷ field_of header 10 ∷ acknowledgment_code note ∷ note ∷ []

abbrev pub ta1 : (header note : List ℕ) → WrittenSegment
ta1 header note = segment (codes "TA1") (ta1_elements header note)

-- nothing is left off at the end of the ISA
pub isa_text : (e : Envelope) (at : List ℕ) (number : ℕ)
    → header_text e at number ≡ segment_text e.delims (codes "ISA") (header_elements e at number)
isa_text e at number =
    let front : List (List ℕ) = party_elements e ++ (
    short_date_of at ∷ time_of at ∷ (e.repetition ∷ []) ∷ codes "00501" ∷ padded_number 9 number ∷ codes "0" ∷ (e.usage ∷ []) ∷ []) in
    let last : List ℕ = e.delims.component ∷ [] in
    ap (full_segment_text e.delims (codes "ISA")) (sym (trimmed-push_full front last (omega arith)))

plain_byte : (b : ℕ) → IsAsciiDigit b → is_ascii_alphanumeric b ≡ true
plain_byte b digit = search (rules, tests)

digits_undivided : (d : Delims) (text : List ℕ) → CanDivide d → All IsAsciiDigit text → IsUndivided d text
digits_undivided d text can all =
    All-weaker IsAsciiDigit (λ b. (b ≢ d.element) × (b ≢ d.terminator)) (λ (b : ℕ) (digit : IsAsciiDigit b). (
      λ same. let on = plain_byte b digit in let off = ap is_ascii_alphanumeric same in cc (on, off, can.element),
      λ same. let on = plain_byte b digit in let off = ap is_ascii_alphanumeric same in cc (on, off, can.terminator),
    )) text all

-- the marks of a partner end no name
pub ending : (d : Delims) (o : Option ℕ)
    → option_map_or (λ (r : ℕ). are_delimiters d.element d.component r d.terminator) o false ≡ true
    → (may_end d.element ≡ true) × (may_end d.terminator ≡ true)
ending d None h = absurd (false≢true h)
ending d (Some r) h =
    let marks = four d.element d.component r d.terminator h in (ends d.element marks.element, marks.terminator)

pub code_inside : (qualifier id code : List ℕ) → are_ids qualifier id code ≡ true → list_all is_inner code ≡ true
code_inside qualifier id code h =
    let last = (and_parts (is_word 2 2 qualifier && is_id 1 15 id) (is_id 2 15 code) h).1 in
    let outer = (and_parts (nat_le 2 (length code) && nat_le (length code) 15 && list_all is_inner code && is_outer (slice_index code 0))
    (is_outer (slice_index code (length code - 1))) last).0 in
    let first = (and_parts (nat_le 2 (length code) && nat_le (length code) 15 && list_all is_inner code)
    (is_outer (slice_index code 0)) outer).0 in
    (and_parts (nat_le 2 (length code) && nat_le (length code) 15) (list_all is_inner code) first).1

module _ (setup : SetupValue) (p : Partner) (count : ℕ) (hub_ids : are_ids setup.hub.qualifier setup.hub.id setup.hub.code ≡ true)
    (sound : IsSoundPartner count p) (at : List ℕ) (moment : IsMoment at) where
  abbrev d : Delims
  d = p.delims

  abbrev e : Envelope
  e = envelope_to setup p

  can : CanDivide d
  can = sound.divides

  written : IsSendable e
  written = sendable count setup.hub p hub_ids sound

  marks : (may_end d.element ≡ true) × (may_end d.terminator ≡ true)
  marks = ending d d.repetition sound.delims

  pub inside : (text : List ℕ) → list_all is_inner text ≡ true → IsUndivided d text
  inside text h = undivided d.element d.terminator marks.0 marks.1 text h

  padded : (text : List ℕ) → IsUndivided d text → IsUndivided d (padded_text 15 text)
  padded text all =
      let P : ℕ → Type 0 = λ b. (b ≢ d.element) × (b ≢ d.terminator) in
      All-append P text (replicate (15 - length text) 32) all
      (All-replicate P (15 - length text) 32 (All-head P 32 [] (inside (32 ∷ []) refl)))

  pub plain : (text : List ℕ) → is_plain text ≡ true → IsUndivided d text
  plain text h = plain-undivided d can text h

  pub date : IsUndivided d (date_of at)
  date = digits_undivided d (date_of at) can (All-take IsAsciiDigit 8 at moment.digits)

  short_date : IsUndivided d (short_date_of at)
  short_date = digits_undivided d (short_date_of at) can (All-take IsAsciiDigit 6 (drop 2 at) (All-drop IsAsciiDigit 2 at moment.digits))

  pub time : IsUndivided d (time_of at)
  time = digits_undivided d (time_of at) can (All-take IsAsciiDigit 4 (drop 8 at) (All-drop IsAsciiDigit 8 at moment.digits))

  pub component : IsUndivided d (d.component ∷ [])
  component =
      let P : ℕ → Type 0 = λ b. (b ≢ d.element) × (b ≢ d.terminator) in
      All-cons P d.component [] (λ same. written.element_not_component (sym same), written.component_not_terminator) (All-nil P)

  pub readable_isa : (number : ℕ) → IsReadable d (isa e at number)
  readable_isa number =
      let P : List ℕ → Type 0 = IsUndivided d in
      let zeros : P (codes "00") = plain (codes "00") refl in
      let blanks : P blank = inside blank refl in
      let ours : P (padded_text 15 e.hub_id) = padded e.hub_id written.hub_id in
      let theirs : P (padded_text 15 e.partner_id) = padded e.partner_id written.partner_id in
      let party : All P (party_elements e) = All-from_recursion P (party_elements e)
      (zeros, (blanks, (zeros, (blanks, (written.hub_qualifier, (ours, (written.partner_qualifier, (theirs, tt)))))))) in
      let version : P (codes "00501") = plain (codes "00501") refl in
      let nine : P (padded_number 9 number) = padded_number-undivided d can 9 number in
      let zero : P (codes "0") = plain (codes "0") refl in
      let control : All P (control_elements e at number) = All-from_recursion P (control_elements e at number)
      (short_date, (time, (written.repetition, (version, (nine, (zero, (written.usage, (component, tt)))))))) in
      readable d can (codes "ISA") (header_elements e at number) (omega arith) refl refl
      (All-append P (party_elements e) (control_elements e at number) party control)

  pub readable_gs : (control : ℕ) → IsReadable d (gs e at control)
  readable_gs control =
      let P : List ℕ → Type 0 = IsUndivided d in
      let fa : P (codes "FA") = plain (codes "FA") refl in
      let hub : P e.hub_code = inside e.hub_code (code_inside setup.hub.qualifier setup.hub.id setup.hub.code hub_ids) in
      let partner : P e.partner_code = inside e.partner_code (code_inside p.qualifier p.id p.code sound.ids) in
      let one : P (decimal control) = decimal-undivided d can control in
      let agency : P (codes "X") = plain (codes "X") refl in
      let version : P (codes "005010X231") = plain (codes "005010X231") refl in
      readable d can (codes "GS") (gs_elements e at control) (omega arith) refl refl
      (All-from_recursion P (gs_elements e at control) (fa, (hub, (partner, (date, (time, (one, (agency, (version, tt)))))))))

  pub readable_ge : (reports control : ℕ) → IsReadable d (ge reports control)
  readable_ge reports control =
      let P : List ℕ → Type 0 = IsUndivided d in
      readable d can (codes "GE") (decimal reports ∷ decimal control ∷ []) (omega arith) refl refl
      (All-from_recursion P (decimal reports ∷ decimal control ∷ [])
      (decimal-undivided d can reports, (decimal-undivided d can control, tt)))

  pub readable_iea : (groups number : ℕ) → IsReadable d (iea groups number)
  readable_iea groups number =
      let P : List ℕ → Type 0 = IsUndivided d in
      readable d can (codes "IEA") (decimal groups ∷ padded_number 9 number ∷ []) (omega arith) refl refl
      (All-from_recursion P (decimal groups ∷ padded_number 9 number ∷ [])
      (decimal-undivided d can groups, (padded_number-undivided d can 9 number, tt)))

  digits_alone : (text : List ℕ) → is_digits text ≡ true → IsUndivided d text
  digits_alone text is = digits_undivided d text can ((digits_decided text).0 is)

  coded : (b : Bool) → IsUndivided d (if b then codes "A" else codes "R")
  coded true = plain (codes "A") refl
  coded false = plain (codes "R") refl

  pub readable_ta1 : (header note : List ℕ) → is_digits (field_of header 13) ≡ true → is_digits (field_of header 9) ≡ true
      → is_digits (field_of header 10) ≡ true → is_digits note ≡ true → IsReadable d (ta1 header note)
  readable_ta1 header note control day clock noted =
      let P : List ℕ → Type 0 = IsUndivided d in
      readable d can (codes "TA1") (ta1_elements header note) (omega arith) refl refl
      (All-from_recursion P (ta1_elements header note) (
        digits_alone (field_of header 13) control,
        (
          digits_alone (field_of header 9) day,
          (
            digits_alone (field_of header 10) clock,
            (coded (bytes_eq note (codes "000")), (digits_alone note noted, tt)),
          ),
        ),
      ))
