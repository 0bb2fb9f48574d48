-- As many 999s as groups that something is answered to; their group, where there is one; and the interchange around it.
use Rattle.std.proofs.Common.{◌≡◌, ℕ, suc, ◌+◌, true, false, List, [], ◌∷◌, ◌++◌, length, refl, ap, true≢false, sym, ◌∙◌}
use Rattle.std.proofs.Common.{append_assoc, append-nil}
use Rattle.x12_bytes.specs.declared.delims.Delims.{Delims}
use Rattle.x12_write.specs.declared.envelope.Envelope.{Envelope}
use Rattle.x12_write.specs.Group.{group_header_text, group_text, group_trailer_text, texts_in_row}
use Rattle.x12_write.specs.Header.{header_text}
use Rattle.x12_write.specs.Trailer.{trailer_text}
use Rattle.ack_999.specs.Interchange.{acknowledging_group, group_count, group_part, ta1_part}
use Rattle.set_answers.specs.declared.answered.AnsweredGroup.{AnsweredGroup}
use Rattle.set_answers.specs.Acknowledgments.{Acknowledgment, acknowledgment_text, has_any, present, reports_from, ta1_of}

reports_length : (d : Delims) (n : ℕ) (xs : List AnsweredGroup) → length (reports_from d n xs) ≡ length xs
reports_length d n [] = refl
reports_length d n (x ∷ xs) = ap suc (reports_length d (n + 1) xs)

no_group : (e : Envelope) (at : List ℕ) (control : ℕ) (xs : List AnsweredGroup) → has_any xs ≡ false
    → group_part e at control (reports_from e.delims 1 xs) ≡ []
no_group e at control [] h = refl
no_group e at control (x ∷ xs) h = absurd (true≢false h)

pub no_count : (d : Delims) (xs : List AnsweredGroup) → has_any xs ≡ false → group_count (reports_from d 1 xs) ≡ 0
no_count d [] h = refl
no_count d (x ∷ xs) h = absurd (true≢false h)

one_group : (e : Envelope) (at : List ℕ) (control : ℕ) (xs : List AnsweredGroup) → has_any xs ≡ true
    → group_part e at control (reports_from e.delims 1 xs)
    ≡ group_text e.delims at (acknowledging_group e control) (reports_from e.delims 1 xs)
one_group e at control [] h = absurd (true≢false (sym h))
one_group e at control (x ∷ xs) h = refl

pub one_count : (d : Delims) (xs : List AnsweredGroup) → has_any xs ≡ true → group_count (reports_from d 1 xs) ≡ 1
one_count d [] h = absurd (true≢false (sym h))
one_count d (x ∷ xs) h = refl

-- nothing is written where nothing is answered
pub nothing_written : (e : Envelope) (at : List ℕ) (control : ℕ) (xs : List AnsweredGroup) (out : List ℕ) → has_any xs ≡ false
    → out ≡ out ++ group_part e at control (reports_from e.delims 1 xs)
nothing_written e at control xs out none =
    sym (append-nil out) ∙ ap (λ (t : List ℕ). out ++ t) (sym (no_group e at control xs none))

regrouped : (out header texts trailer : List ℕ) → ((out ++ header) ++ texts) ++ trailer ≡ out ++ (header ++ texts ++ trailer)
regrouped out header texts trailer = simp append_assoc

-- else a header, the 999s and a trailer are their group
pub group_written : (e : Envelope) (at : List ℕ) (control : ℕ) (xs : List AnsweredGroup) (n : ℕ) (out opened listed closed : List ℕ)
    → has_any xs ≡ true → n ≡ length xs
    → opened ≡ out ++ group_header_text e.delims at (acknowledging_group e control)
    → listed ≡ opened ++ texts_in_row (reports_from e.delims 1 xs)
    → closed ≡ listed ++ group_trailer_text e.delims n control
    → closed ≡ out ++ group_part e at control (reports_from e.delims 1 xs)
group_written e at control xs n out opened listed closed any count is_opened is_listed is_closed =
    let header : List ℕ = group_header_text e.delims at (acknowledging_group e control) in
    let texts : List ℕ = texts_in_row (reports_from e.delims 1 xs) in
    is_closed
    ∙ ap (λ (t : List ℕ). t ++ group_trailer_text e.delims n control) (is_listed ∙ ap (λ (t : List ℕ). t ++ texts) is_opened)
    ∙ ap (λ (m : ℕ). ((out ++ header) ++ texts) ++ group_trailer_text e.delims m control) (count ∙ sym (reports_length e.delims 1 xs))
    ∙ regrouped out header texts (group_trailer_text e.delims (length (reports_from e.delims 1 xs)) control)
    ∙ ap (λ (t : List ℕ). out ++ t) (sym (one_group e at control xs any))

enclosed : (out header ta1 group trailer : List ℕ)
    → (((out ++ header) ++ ta1) ++ group) ++ trailer ≡ out ++ (header ++ ta1 ++ group ++ trailer)
enclosed out header ta1 group trailer = simp append_assoc

-- a header, the TA1, the group and a trailer are the acknowledgment
pub acknowledgment_written : (e : Envelope) (at : List ℕ) (number control : ℕ) (a : Acknowledgment) (groups : ℕ)
    (out headed noted grouped closed : List ℕ)
    → headed ≡ out ++ header_text e at number → noted ≡ headed ++ ta1_part (ta1_of e.delims a)
    → grouped ≡ noted ++ group_part e at control (reports_from e.delims 1 (present a.groups))
    → groups ≡ group_count (reports_from e.delims 1 (present a.groups))
    → closed ≡ grouped ++ trailer_text e.delims groups number
    → closed ≡ out ++ acknowledgment_text e at number control a
acknowledgment_written e at number control a groups out headed noted grouped closed is_headed is_noted is_grouped count is_closed =
    let header : List ℕ = header_text e at number in
    let ta1 : List ℕ = ta1_part (ta1_of e.delims a) in
    let reports : List (List ℕ) = reports_from e.delims 1 (present a.groups) in
    let group : List ℕ = group_part e at control reports in
    let trailer : List ℕ = trailer_text e.delims (group_count reports) number in
    is_closed ∙ ap (λ (n : ℕ). grouped ++ trailer_text e.delims n number) count
    ∙ ap (λ (t : List ℕ). t ++ trailer)
    (is_grouped ∙ ap (λ (t : List ℕ). t ++ group) (is_noted ∙ ap (λ (t : List ℕ). t ++ ta1) is_headed))
    ∙ enclosed out header ta1 group trailer
