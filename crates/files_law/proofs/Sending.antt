-- X12.5, interchange control header: its length, and what is left after a front.
use Rattle.std.proofs.Common.{◌≡◌, ℕ, ◌+◌, ◌-◌, ◌≤◌, List, [], ◌∷◌, ◌++◌, length, drop, min, refl, ap, ◌∙◌, arith, length-append}
use Rattle.std.specs.Prelude.{codes, replicate}
use Rattle.std.proofs.lemmas.List.{length-drop, length-replicate, length-take}
use Rattle.moment.specs.Moment.{IsMoment, short_date_of, time_of}
use Rattle.x12_write.specs.declared.envelope.Envelope.{Envelope}
use Rattle.x12_write.specs.Header.{header_elements, header_text}
use Rattle.x12_write.specs.Number.{padded_number, padded_text}
use Rattle.x12_write.specs.Segment.{elements_text}
use Rattle.x12_write.specs.Sendable.{IsSendable}
use Rattle.x12_write.proofs.ForAbove.{length-elements_text}
use Rattle.files_law.proofs.Digits.{nine_read}

pub dropped_front : (xs ys : List ℕ) → drop (length xs) (xs ++ ys) ≡ ys
dropped_front [] ys = refl
dropped_front (x ∷ xs) ys = dropped_front xs ys

text_length : (text : List ℕ) → length text ≤ 15 → length (padded_text 15 text) ≡ 15
text_length text short =
    omega (arith, short, length-append text (replicate (15 - length text) 32), length-replicate {A = ℕ} (15 - length text) 32)

date_length : (at : List ℕ) → IsMoment at → length (short_date_of at) ≡ 6
date_length at moment =
    let left = length-drop 2 at in let len = moment.len in
    let long = length-take 6 (drop 2 at) in
    let six : min 6 (length (drop 2 at)) ≡ 6 = omega arith in
    long ∙ six

time_length : (at : List ℕ) → IsMoment at → length (time_of at) ≡ 4
time_length at moment =
    let left = length-drop 8 at in let len = moment.len in
    let long = length-take 4 (drop 8 at) in
    let four : min 4 (length (drop 8 at)) ≡ 4 = omega arith in
    long ∙ four

pub header_length : (e : Envelope) (at : List ℕ) (number : ℕ) → IsSendable e → IsMoment at → number ≤ 999999999
    → length (header_text e at number) ≡ 106
header_length e at number s moment nine =
    let hub = s.hub_qualifier_len in
    let hub_id = text_length e.hub_id s.hub_id_len in
    let partner = s.partner_qualifier_len in
    let partner_id = text_length e.partner_id s.partner_id_len in
    let date = date_length at moment in
    let time = time_length at moment in
    let nine_digits = (nine_read number nine).0 in
    let sep : ℕ = e.delims.element in
    let els : List (List ℕ) = header_elements e at number in
    let wide : length (elements_text sep els)
    ≡ 3 + (11 + (3 + (11 + (1 + length e.hub_qualifier + (1 + length (padded_text 15 e.hub_id) + (1 + length e.partner_qualifier
    + (1 + length (padded_text 15 e.partner_id) + (1 + length (short_date_of at) + (1 + length (time_of at)
    + (2 + (6 + (1 + length (padded_number 9 number) + (2 + (2 + (2 + 0)))))))))))))))
    = length-elements_text sep els in
    let long = length-append (codes "ISA") (elements_text sep els) in
    let all = length-append (codes "ISA" ++ elements_text sep els) (e.delims.terminator ∷ []) in
    let sum : 3 + length (elements_text sep els) ≡ 105 = omega arith in
    all ∙ ap (λ (n : ℕ). n + 1) (long ∙ sum)
