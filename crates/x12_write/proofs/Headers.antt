-- An outbound header is read again.
use Rattle.std.proofs.Common.{◌≡◌, ◌≢◌, ℕ, min, ◌+◌, ◌-◌, ◌≤◌, Bool, true, false, not, ◌||◌, ◌==◌}
use Rattle.std.proofs.Common.{List, [], ◌∷◌, ◌++◌, length, drop}
use Rattle.std.proofs.Common.{rules, tests, refl, sym, ap, subst, ◌∙◌, arith, append_assoc, length-append, length-take, length-drop, eq-eqb}
use Rattle.std.specs.Prelude.{All, IsTrue, Option, codes, decimal, replicate, slice_index, slice_index_or}
use Rattle.std.specs.Char.{IsAsciiDigit, is_ascii_alphanumeric}
use Rattle.std.proofs.lemmas.Fmt.{length-decimal-le}
use Rattle.std.proofs.lemmas.List.{length-replicate}
use Rattle.std.proofs.lemmas.List.Elements.{All-nil, All-cons, All-append, All-replicate, All-take, All-drop, All-weaker}
use Rattle.x12_bytes.specs.Bytes.{is_line_end, may_separate, may_terminate}
use Rattle.x12_bytes.specs.Header.{IsHeader, header_at, IsFieldByte, element_separator_of, component_separator_of, terminator_of}
use Rattle.x12_bytes.specs.Header.{repetition_of}
use Rattle.x12_bytes.specs.Header.{header_delims}
use Rattle.x12_bytes.specs.Header.{field_of}
use Rattle.x12_bytes.specs.declared.delims.Delims.{Delims}
use Rattle.moment.specs.Moment.{IsMoment, short_date_of, time_of}
use Rattle.x12_write.specs.declared.envelope.Envelope.{Envelope}
use Rattle.x12_write.specs.Header.{blank, header_elements, header_text}
use Rattle.x12_write.specs.Number.{padded_number, padded_text}
use Rattle.x12_write.specs.Segment.{elements_text}
use Rattle.x12_write.specs.Sendable.{IsSendable, IsReadAs, repetition_shown}
use Rattle.x12_write.specs.Undivided.{CanDivide, IsUndivided}
use Rattle.x12_write.proofs.Fields.{byte-behind, text-behind, byte-of, Fill, IsFilled, fields-filled, fill-next, length-elements_text}
use Rattle.x12_write.proofs.Plain.{both, plain-undivided, padded_number-undivided}

-- a byte that may terminate is no letter, digit or space
not-plain : (b : ℕ) → IsTrue (may_terminate b) → is_ascii_alphanumeric b ≡ false
not-plain b may = off (is_ascii_alphanumeric b) (b == 32) may
  where
    off : (p q : Bool) → not (p || q) ≡ true → p ≡ false
    off false q h = refl
    off true q h = cc

not-space : (b : ℕ) → IsTrue (may_terminate b) → 32 ≢ b
not-space b may same = off (is_ascii_alphanumeric b) (b == 32) may (eq-eqb b 32 (sym same))
  where
    off : (p q : Bool) → not (p || q) ≡ true → q ≡ true → ⊥
    off p true h on = cc
    off true false h on = cc
    off false false h on = cc

terminates : (b : ℕ) → IsTrue (may_separate b) → IsTrue (may_terminate b)
terminates b may = (both (may_terminate b) (not (is_line_end b)) may).0

divides : (e : Envelope) → IsSendable e → CanDivide e.delims
divides e s = record {
  element = not-plain e.delims.element (terminates e.delims.element s.element_allowed);
  terminator = not-plain e.delims.terminator s.terminator_allowed;
  apart = s.element_not_terminator;
}

spaces-undivided : (e : Envelope) (n : ℕ) → IsSendable e → IsUndivided e.delims (replicate n 32)
spaces-undivided e n s =
    All-replicate (λ b. (b ≢ e.delims.element) × (b ≢ e.delims.terminator)) n 32
    (not-space e.delims.element (terminates e.delims.element s.element_allowed), not-space e.delims.terminator s.terminator_allowed)

padded-undivided : (e : Envelope) (text : List ℕ) → IsSendable e → IsUndivided e.delims text → IsUndivided e.delims (padded_text 15 text)
padded-undivided e text s all =
    All-append (λ b. (b ≢ e.delims.element) × (b ≢ e.delims.terminator)) text (replicate (15 - length text) 32) all
    (spaces-undivided e (15 - length text) s)

length-padded_text : (text : List ℕ) → length text ≤ 15 → length (padded_text 15 text) ≡ 15
length-padded_text text most =
    let long = length-append text (replicate (15 - length text) 32) in
    let spaces : length (replicate {A = ℕ} (15 - length text) 32) ≡ 15 - length text = length-replicate (15 - length text) 32 in
    let sum : length text + length (replicate {A = ℕ} (15 - length text) 32) ≡ 15 = omega arith in
    long ∙ sum

length-padded_number : (n : ℕ) → n ≤ 999999999 → length (padded_number 9 n) ≡ 9
length-padded_number n most =
    let digits = length-decimal-le 9 n (omega arith) (omega (arith, most)) (omega (arith, most)) in
    let long = length-append (replicate (9 - length (decimal n)) 48) (decimal n) in
    let zeros : length (replicate {A = ℕ} (9 - length (decimal n)) 48) ≡ 9 - length (decimal n)
    = length-replicate (9 - length (decimal n)) 48 in
    let sum : length (replicate {A = ℕ} (9 - length (decimal n)) 48) + length (decimal n) ≡ 9 = omega arith in
    long ∙ sum

-- a digit is none of the delimiters
digits-undivided : (d : Delims) (text : List ℕ) → CanDivide d → All IsAsciiDigit text → IsUndivided d text
digits-undivided d text can all =
    All-weaker IsAsciiDigit (λ b. (b ≢ d.element) × (b ≢ d.terminator)) (λ (b : ℕ) (digit : IsAsciiDigit b). (
      λ same. let on = plain b digit in let off = ap is_ascii_alphanumeric same in cc (on, off, can.element),
      λ same. let on = plain b digit in let off = ap is_ascii_alphanumeric same in cc (on, off, can.terminator),
    )) text all
  where
    plain : (b : ℕ) → IsAsciiDigit b → is_ascii_alphanumeric b ≡ true
    plain b digit = search (rules, tests)

-- bytes that are neither delimiter may stand in a field
field-bytes : (header : List ℕ) (d : Delims) (x : List ℕ) → element_separator_of header ≡ d.element → terminator_of header ≡ d.terminator
    → IsUndivided d x → All (IsFieldByte header) x
field-bytes header d x element terminator all =
    subst (λ (t : ℕ). All (λ b. (b ≢ element_separator_of header) × (b ≢ t)) x) (sym terminator)
    (subst (λ (s : ℕ). All (λ b. (b ≢ s) × (b ≢ d.terminator)) x) (sym element) all)

-- the date and the time
length-date : (at : List ℕ) → IsMoment at → length (short_date_of at) ≡ 6
length-date at moment =
    let left = length-drop 2 at in let len = moment.len in
    let long = length-take 6 (drop 2 at) in
    let six : min 6 (length (drop 2 at)) ≡ 6 = omega arith in
    long ∙ six

length-time : (at : List ℕ) → IsMoment at → length (time_of at) ≡ 4
length-time at moment =
    let left = length-drop 8 at in let len = moment.len in
    let long = length-take 4 (drop 8 at) in
    let four : min 4 (length (drop 8 at)) ≡ 4 = omega arith in
    long ∙ four

-- how long the header is before its terminator
length-front : (e : Envelope) (at : List ℕ) (number : ℕ) → IsSendable e → IsMoment at → number ≤ 999999999
    → length (codes "ISA" ++ elements_text e.delims.element (header_elements e at number)) ≡ 105
length-front e at number s moment nine =
    let hub = s.hub_qualifier_len in
    let hub_id = length-padded_text e.hub_id s.hub_id_len in
    let partner = s.partner_qualifier_len in
    let partner_id = length-padded_text e.partner_id s.partner_id_len in
    let date = length-date at moment in
    let time = length-time at moment in
    let nine_digits = length-padded_number number nine in
    let wide : length (elements_text e.delims.element (header_elements e at number))
    ≡ 3 + (11 + (3 + (11 + (1 + length e.hub_qualifier + (1 + length (padded_text 15 e.hub_id) + (1 + length e.partner_qualifier
    + (1 + length (padded_text 15 e.partner_id) + (1 + length (short_date_of at) + (1 + length (time_of at)
    + (2 + (6 + (1 + length (padded_number 9 number) + (2 + (2 + (2 + 0)))))))))))))))
    = length-elements_text e.delims.element (header_elements e at number) in
    let long = length-append (codes "ISA") (elements_text e.delims.element (header_elements e at number)) in
    let sum : 3 + length (elements_text e.delims.element (header_elements e at number)) ≡ 105 = omega arith in
    long ∙ sum

-- its elements fill its fields
fill : (e : Envelope) (at : List ℕ) (number : ℕ) → IsSendable e → IsMoment at → number ≤ 999999999
    → (h : List ℕ) → element_separator_of h ≡ e.delims.element → terminator_of h ≡ e.delims.terminator → Fill h 1 3
    (header_elements e at number)
fill e at number s moment nine h element terminator =
    let d : Delims = e.delims in
    let can = divides e s in
    let fit : (x : List ℕ) → IsUndivided d x → All (IsFieldByte h) x = λ x all. field-bytes h d x element terminator all in
    let blanks = fit blank (spaces-undivided e 10 s) in
    let none = fit (codes "00") (plain-undivided d can (codes "00") refl) in
    let digits = digits-undivided d at can moment.digits in
    let P : ℕ → Type 0 = λ b. (b ≢ d.element) × (b ≢ d.terminator) in
    let component : IsUndivided d (d.component ∷ []) =
    All-cons P d.component [] (λ same. s.element_not_component (sym same), s.component_not_terminator) (All-nil P) in
    let els : List (List ℕ) = header_elements e at number in
    let f16 = fill-next h 16 (d.component ∷ []) [] refl (fit (d.component ∷ []) component) tt in
    let f15 = fill-next h 15 (e.usage ∷ []) (drop 15 els) refl (fit (e.usage ∷ []) s.usage) f16 in
    let f14 = fill-next h 14 (codes "0") (drop 14 els) refl (fit (codes "0") (plain-undivided d can (codes "0") refl)) f15 in
    let f13 = fill-next h 13 (padded_number 9 number) (drop 13 els) (length-padded_number number nine)
    (fit (padded_number 9 number) (padded_number-undivided d can 9 number)) f14 in
    let f12 = fill-next h 12 (codes "00501") (drop 12 els) refl (fit (codes "00501") (plain-undivided d can (codes "00501") refl)) f13 in
    let f11 = fill-next h 11 (e.repetition ∷ []) (drop 11 els) refl (fit (e.repetition ∷ []) s.repetition) f12 in
    let f10 = fill-next h 10 (time_of at) (drop 10 els) (length-time at moment)
    (fit (time_of at) (All-take P 4 (drop 8 at) (All-drop P 8 at digits))) f11 in
    let f9 = fill-next h 9 (short_date_of at) (drop 9 els) (length-date at moment)
    (fit (short_date_of at) (All-take P 6 (drop 2 at) (All-drop P 2 at digits))) f10 in
    let f8 = fill-next h 8 (padded_text 15 e.partner_id) (drop 8 els) (length-padded_text e.partner_id s.partner_id_len)
    (fit (padded_text 15 e.partner_id) (padded-undivided e e.partner_id s s.partner_id)) f9 in
    let f7 = fill-next h 7 e.partner_qualifier (drop 7 els) s.partner_qualifier_len (fit e.partner_qualifier s.partner_qualifier) f8 in
    let f6 = fill-next h 6 (padded_text 15 e.hub_id) (drop 6 els) (length-padded_text e.hub_id s.hub_id_len)
    (fit (padded_text 15 e.hub_id) (padded-undivided e e.hub_id s s.hub_id)) f7 in
    let f5 = fill-next h 5 e.hub_qualifier (drop 5 els) s.hub_qualifier_len (fit e.hub_qualifier s.hub_qualifier) f6 in
    let f4 = fill-next h 4 blank (drop 4 els) refl blanks f5 in
    let f3 = fill-next h 3 (codes "00") (drop 3 els) refl none f4 in
    let f2 = fill-next h 2 blank (drop 2 els) refl blanks f3 in
    fill-next h 1 (codes "00") (drop 1 els) refl none f2

delims-same : (d : Delims) (a c t : ℕ) (r : Option ℕ) → a ≡ d.element → c ≡ d.component → r ≡ d.repetition → t ≡ d.terminator
    → (let made : Delims = record { element = a; component = c; repetition = r; terminator = t } in made) ≡ d
delims-same d a c t r element component repetition terminator = rw (element, component, repetition, terminator) refl

-- the header is one
header-is : (e : Envelope) (at : List ℕ) (number : ℕ) → IsSendable e → IsMoment at → number ≤ 999999999
    → (let h : List ℕ = header_text e at number in
    IsHeader h × ((header_delims h ≡ e.delims)
    × ((k : ℕ) → 1 ≤ k → k ≤ 16 → field_of h k ≡ slice_index_or (header_elements e at number) (k - 1) [])))
header-is e at number s moment nine =
    let d : Delims = e.delims in
    let els : List (List ℕ) = header_elements e at number in
    let front : List ℕ = codes "ISA" ++ elements_text d.element els in
    let h : List ℕ = header_text e at number in
    let long : length front ≡ 105 = length-front e at number s moment nine in
    let element : element_separator_of h ≡ d.element = refl in
    let terminator : terminator_of h ≡ d.terminator = byte-behind front 105 d.terminator [] long in
    let fields : (k : ℕ) → 1 ≤ k → k ≤ 16 → IsFilled h k (slice_index_or els (k - 1) []) = λ k from to.
    fields-filled h (codes "ISA") (d.terminator ∷ []) d.element 1 els refl refl (fill e at number s moment nine h element terminator)
    k from (omega (arith, to)) in
    let component : component_separator_of h ≡ d.component = byte-of h 104 d.component (fields 16 (omega arith) (omega arith)).1 in
    let byte : slice_index h 82 ≡ e.repetition = byte-of h 82 e.repetition (fields 11 (omega arith) (omega arith)).1 in
    let shown : repetition_of h ≡ repetition_shown e = rw (byte, component, terminator) refl in
    let whole : length h ≡ 106 = length-append front (d.terminator ∷ []) ∙ ap (λ (n : ℕ). n + 1) long in (
      record {
        len = whole;
        isa = refl;
        element_not_component = λ same. s.element_not_component (same ∙ component);
        element_not_terminator = λ same. s.element_not_terminator (same ∙ terminator);
        component_not_terminator = λ same. s.component_not_terminator (sym component ∙ same ∙ terminator);
        element_allowed = s.element_allowed;
        component_allowed = ap may_separate component ∙ s.component_allowed;
        terminator_allowed = ap may_terminate terminator ∙ s.terminator_allowed;
        fields = λ k from to. (fields k from to).0;
      },
      (
        delims-same d (element_separator_of h) (component_separator_of h) (terminator_of h) (repetition_of h) element component
            (shown ∙ sym s.repetition_separates) terminator,
        λ k from to. (fields k from to).1,
      ),
    )

-- so it is where it stands in a text
pub header-read : (e : Envelope) (at : List ℕ) (number : ℕ) (text before : List ℕ) → text ≡ before ++ header_text e at number
    → IsMoment at → IsSendable e → number ≤ 999999999 → (behind : List ℕ) → IsReadAs e at number (text ++ behind) (length before)
header-read e at number text before is moment s nine behind =
    let h : List ℕ = header_text e at number in
    let known = header-is e at number s moment nine in
    let whole : length h ≡ 106 = known.0.len in
    let moved : text ++ behind ≡ before ++ (h ++ behind) = ap (λ (t : List ℕ). t ++ behind) is ∙ append_assoc before h behind in
    let there : header_at (text ++ behind) (length before) ≡ h =
    ap (λ (t : List ℕ). header_at t (length before)) moved
    ∙ text-behind before (length before) h behind (length before + 106) refl (ap (λ (n : ℕ). length before + n) whole) in
    let long = ap length moved in
    let first = length-append before (h ++ behind) in
    let second = length-append h behind in
    record {
      head = (omega arith, subst IsHeader (sym there) known.0);
      delims = ap header_delims there ∙ known.1.0;
      fields = λ k from to. ap (λ (x : List ℕ). field_of x k) there ∙ known.1.1 k from to;
    }
