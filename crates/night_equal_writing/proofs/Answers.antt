-- The acknowledgments of interchanges to a partner.
use Rattle.std.proofs.Common.{◌≡◌, ℕ, ◌+◌, List, [], ◌∷◌, ◌++◌, map, Bool, true, false, ◌&&◌, ◌||◌, not, Option, Some, None, length, refl}
use Rattle.std.proofs.Common.{sym, ap, ◌∙◌, arith, subst}
use Rattle.std.proofs.lemmas.Bool.{le-leb}
use Rattle.std.proofs.lemmas.List.Elements.{All-head, All-tail}
use Rattle.std.proofs.lemmas.Slice.Zip.{AllZip-long}
use Rattle.std.proofs.lemmas.List.Sums.{sum_by-cons}
use Rattle.std.specs.Prelude.{◌==◌, nat_le, if◌then◌else◌, codes, filter, is_some, bytes_eq, All, option_map, sum_by}
use Rattle.std.specs.Option.{option_map_or}
use Rattle.std.specs.List.{AllZip}
use Rattle.x12_bytes.specs.declared.delims.Delims.{Delims}
use Rattle.x12_bytes.specs.Header.{field_of}
use Rattle.moment.specs.Calendar.{is_digits}
use Rattle.hub_kinds.specs.Words as words
use Rattle.hub_kinds.specs.declared.interchange.InterchangeFault.{InterchangeFault}
use Rattle.env_index.specs.Words.{InterchangeEntry}
use Rattle.x12_write.specs.declared.envelope.Envelope.{Envelope}
use Rattle.x12_write.specs.Group.{group_text}
use Rattle.x12_write.specs.Header.{header_text}
use Rattle.partner_setup.specs.declared.partner.Partner.{Partner}
use Rattle.partner_setup.specs.Envelopes.{envelope_between}
use Rattle.partner_setup.specs.Setup.{SetupValue}
use Rattle.count_numbers.specs.Num.{num}
use Rattle.ack_999.specs.Interchange as old_interchange
use Rattle.ack_999.specs.Report.{text_999}
use Rattle.ack_999.specs.Ta1 as old_ta1
use Rattle.answered_sets.specs.Answered as old_note
use Rattle.set_answers.specs.declared.answered.AnsweredGroup as layer
use Rattle.set_answers.specs.Acknowledgments as old
use Rattle.set_answers.specs.CheckedText as old_text
use Rattle.set_answers.specs.CheckedText.{CheckedInterchange}
use Rattle.night_definition.specs.Elements.{numbered, is_this}
use Rattle.night_definition.specs.Setup.{Setup, Judged}
use Rattle.night_definition.specs.Answers.{Answered, AnsweredGroup}
use Rattle.night_definition.specs.Written as room_written
use Rattle.night_definition.specs.Codes as room_codes
use Rattle.night_definition.specs.Acknowledgments as room
use Rattle.night_definition.specs.Night as room_night
use Rattle.night_equal_writing.specs.Acknowledgments.{HaveTheirCodes, acknowledgment, answered_group, group_answer, set_answer}
use Rattle.night_equal_writing.specs.Answers.{AnswersAreOne, IsAnswered}
use Rattle.night_equal_writing.proofs.Codes as codes_are
use Rattle.night_equal_writing.proofs.Texts.{group_is, texts_are_one}
use Rattle.night_equal_writing.proofs.Acknowledgments.{same_either, report_is, ta1_is}

with_fault : (s a b c : Bool) (n m : Option (List ℕ)) → n ≡ m
    → (if s && a && b && c then n else None) ≡ (if s && (a && b && c) && true then m else None)
with_fault true true true true n m e = e
with_fault true true true false n m e = refl
with_fault true true false c n m e = refl
with_fault true false b c n m e = refl
with_fault false a b c n m e = refl

asked : (s a b c asks : Bool)
    → (if s && a && b && c then (if asks then Some (codes "000") else None) else None)
    ≡ (if s && (a && b && c) && asks then Some (codes "000") else None)
asked true true true true asks = refl
asked true true true false asks = refl
asked true true false c asks = refl
asked true false b c asks = refl
asked false a b c asks = refl

abbrev answered_by : (sender : Option ℕ) → Option InterchangeFault → (header : List ℕ) → (groups : ℕ) → Option (List ℕ)
answered_by sender fault header groups =
    if is_some sender && old_note.is_repeatable header
    && (is_some fault || (bytes_eq (field_of header 14) (codes "1") && nat_le 1 groups)) then words.note_text fault else None

note_by : (j : Judged) → room.ta1_note j ≡ answered_by j.sender j.fault j.interchange.header (length j.interchange.content.groups)
note_by j = by j.fault
  where
    by : (o : Option InterchangeFault)
        → room.ta1_note (record j { fault = o }) ≡ answered_by j.sender o j.interchange.header (length j.interchange.content.groups)
    by None =
        asked (is_some j.sender) (is_digits (field_of j.interchange.header 13)) (is_digits (field_of j.interchange.header 9))
        (is_digits (field_of j.interchange.header 10))
        (bytes_eq (field_of j.interchange.header 14) (codes "1") && nat_le 1 (length j.interchange.content.groups))
    by (Some fault) =
        with_fault (is_some j.sender) (is_digits (field_of j.interchange.header 13)) (is_digits (field_of j.interchange.header 9))
        (is_digits (field_of j.interchange.header 10)) (room_codes.fault_texts fault).1 (words.note_text (Some fault))
        (ap (λ (x : List ℕ × Option (List ℕ)). x.1) (codes_are.fault fault))

pub note_is : (j : Judged) (x : InterchangeEntry) → x.header ≡ j.interchange.header
    → length x.content.groups ≡ length j.interchange.content.groups → room.ta1_note j ≡ old_note.ta1_note j.sender j.fault x
note_is j x header groups =
    note_by j ∙ sym (ap (λ h. answered_by j.sender j.fault h (length x.content.groups)) header
    ∙ ap (answered_by j.sender j.fault j.interchange.header) groups)

-- a group that is answered to, as the layers have it
abbrev told : AnsweredGroup → layer.AnsweredGroup
told g = record { answer = group_answer g; sets = map set_answer g.answers }

abbrev those : List AnsweredGroup → List AnsweredGroup
those groups = filter (λ (g : AnsweredGroup). not g.is_fa) groups

present_one : (b : Bool) (g : AnsweredGroup) (gs : List (Option layer.AnsweredGroup)) (rest : List AnsweredGroup) → old.present gs
    ≡ map told rest
    → old.present ((if b then None else Some (told g)) ∷ gs) ≡ map told (if not b then g ∷ rest else rest)
present_one true g gs rest more = more
present_one false g gs rest more = ap (λ r. told g ∷ r) more

pub present_are : (groups : List AnsweredGroup) → old.present (map answered_group groups) ≡ map told (those groups)
present_are [] = refl
present_are (g ∷ groups) = present_one g.is_fa g (map answered_group groups) (those groups) (present_are groups)

pub reports_are : (d : Delims) (n : ℕ) (groups : List AnsweredGroup) → All HaveTheirCodes groups
    → map (λ (g : ℕ × AnsweredGroup). room.report_text d g.0 g.1) (numbered n groups) ≡ old.reports_from d n (map told groups)
reports_are d n [] all = refl
reports_are d n (g ∷ groups) all =
    ap (λ t. t ∷ map (λ (g : ℕ × AnsweredGroup). room.report_text d g.0 g.1) (numbered (n + 1) groups))
    (report_is d n g (All-head HaveTheirCodes g groups all))
    ∙ ap (λ r. text_999 d (group_answer g) (map set_answer g.answers) n ∷ r)
    (reports_are d (n + 1) groups (All-tail HaveTheirCodes g groups all))

at_least_one : {A : Type 0} (x : A) (xs : List A) → nat_le 1 (length (x ∷ xs)) ≡ true
at_least_one x xs = le-leb 1 (length (x ∷ xs)) (omega arith)

group_part_is : (setup : Setup) (p : Partner) (at : List ℕ) (control : ℕ) (groups : List AnsweredGroup) → All HaveTheirCodes groups
    → (if nat_le 1 (length groups)
    then room_written.group_text p.delims at (codes "FA") setup.hub.code p.code control (codes "005010X231")
    (map (λ (g : ℕ × AnsweredGroup). room.report_text p.delims g.0 g.1) (numbered 1 groups))
    else [])
    ≡ old_interchange.group_part (envelope_between setup.hub p) at control (old.reports_from p.delims 1 (map told groups))
group_part_is setup p at control [] all = refl
group_part_is setup p at control (g ∷ groups) all =
    let e : Envelope = envelope_between setup.hub p in
    ap (λ b. if b
    then room_written.group_text p.delims at (codes "FA") setup.hub.code p.code control (codes "005010X231")
    (map (λ (g : ℕ × AnsweredGroup). room.report_text p.delims g.0 g.1) (numbered 1 (g ∷ groups)))
    else []) (at_least_one g groups)
    ∙ group_is p.delims at (old_interchange.acknowledging_group e control)
    (map (λ (g : ℕ × AnsweredGroup). room.report_text p.delims g.0 g.1) (numbered 1 (g ∷ groups)))
    ∙ ap (group_text p.delims at (old_interchange.acknowledging_group e control)) (reports_are p.delims 1 (g ∷ groups) all)

count_is : (d : Delims) (groups : List AnsweredGroup)
    → (if nat_le 1 (length groups) then 1 else 0) ≡ old_interchange.group_count (old.reports_from d 1 (map told groups))
count_is d [] = refl
count_is d (g ∷ groups) = ap (λ b. if b then 1 else 0) (at_least_one g groups)

has_any_is : (groups : List AnsweredGroup) → nat_le 1 (length groups) ≡ old.has_any (map told groups)
has_any_is [] = refl
has_any_is (g ∷ groups) = at_least_one g groups

has_reports_is : (x : Answered) → nat_le 1 (length (room.reported x)) ≡ old.has_reports (acknowledgment x)
has_reports_is x = has_any_is (room.reported x) ∙ sym (ap old.has_any (present_are x.groups))

pub total_is : (x : Answered) → room.group_total x ≡ old.acknowledgment_group_count (acknowledgment x)
total_is x = ap (λ b. if b then 1 else 0) (has_reports_is x)

ta1_part_is : (d : Delims) (header : List ℕ) (note : Option (List ℕ))
    → option_map_or (room.ta1_text d header) note [] ≡ old_interchange.ta1_part (option_map (old_ta1.ta1_text d header) note)
ta1_part_is d header None = refl
ta1_part_is d header (Some note) = ta1_is d header note

pub text_is : (setup : Setup) (p : Partner) (at : List ℕ) (number control : ℕ) (x : Answered) → All HaveTheirCodes (room.reported x)
    → room.acknowledgment_text setup p at number control x
    ≡ old.acknowledgment_text (envelope_between setup.hub p) at number control (acknowledgment x)
text_is setup p at number control x all =
    let e : Envelope = envelope_between setup.hub p in
    let d : Delims = p.delims in
    let reports : List (List ℕ) = old.reports_from d 1 (map told (room.reported x)) in
    let front : List ℕ = header_text e at number in
    let ta1 : List ℕ = old_interchange.ta1_part (old.ta1_of d (acknowledgment x)) in
    ap (λ t. front ++ t
    ++ (if nat_le 1 (length (room.reported x))
    then room_written.group_text d at (codes "FA") setup.hub.code p.code control (codes "005010X231")
    (map (λ (g : ℕ × AnsweredGroup). room.report_text d g.0 g.1) (numbered 1 (room.reported x)))
    else [])
    ++ room_written.iea_text d (room.group_total x) number) (ta1_part_is d x.judged.interchange.header (room.ta1_note x.judged))
    ∙ ap (λ t. front ++ ta1 ++ t ++ room_written.iea_text d (room.group_total x) number)
    (group_part_is setup p at control (room.reported x) all)
    ∙ ap (λ n. front ++ ta1 ++ old_interchange.group_part e at control reports ++ room_written.iea_text d n number)
    (count_is d (room.reported x))
    ∙ ap (λ t. front ++ ta1 ++ old_interchange.group_part e at control reports ++ t)
    (texts_are_one.iea d (old_interchange.group_count reports) number)
    ∙ ap (λ (gs : List layer.AnsweredGroup). old_interchange.interchange_text e at number control (old.ta1_of d (acknowledgment x))
    (old.reports_from d 1 gs))
    (sym (present_are x.groups))

and_true : (b : Bool) → (b && true) ≡ b
and_true true = refl
and_true false = refl

and_false : (b : Bool) → (b && false) ≡ false
and_false true = refl
and_false false = refl

is_there_to : (partner : ℕ) (sender : Option ℕ) (there : Bool)
    → (is_this sender partner && there) ≡ old_text.is_partner partner (if there then sender else None)
is_there_to partner None there = by there
  where
    by : (there : Bool) → false ≡ old_text.is_partner partner (if there then None else None)
    by true = refl
    by false = refl
is_there_to partner (Some n) true = and_true (partner == n) ∙ same_either partner n
is_there_to partner (Some n) false = and_false (partner == n)

is_to : (partner : ℕ) (c : CheckedInterchange) (x : Answered) → IsAnswered c x
    → old_text.is_acknowledged_to partner c ≡ room.is_acknowledged_to partner x
is_to partner c x is =
    ap (λ a. old_text.is_partner partner (old_text.recipient_by c.sender a)) is.acknowledgment
    ∙ ap (λ s. old_text.is_partner partner (old_text.recipient_by s (acknowledgment x))) is.sender
    ∙ sym (is_there_to partner x.judged.sender (old.is_there (acknowledgment x)))
    ∙ ap (λ b. is_this x.judged.sender partner && (is_some (room.ta1_note x.judged) || b)) (sym (has_reports_is x))

kept : {A B : Type 0} (R : A → B → Type 0) (a : A) (b : B) (ls : List A) (ms : List B) (t : Bool) → R a b → AllZip R ls ms
    → AllZip R (if t then a ∷ ls else ls) (if t then b ∷ ms else ms)
kept R a b ls ms true is more = (is, more)
kept R a b ls ms false is more = more

pub filtered : {A B : Type 0} (R : A → B → Type 0) (p : A → Bool) (q : B → Bool) → ((a : A) (b : B) → R a b → p a ≡ q b)
    → (ls : List A) (ms : List B) → AllZip R ls ms → AllZip R (filter p ls) (filter q ms)
filtered R p q same [] [] zip = zip
filtered R p q same (a ∷ ls) [] zip = absurd zip
filtered R p q same [] (b ∷ ms) zip = absurd zip
filtered {A} {B} R p q same (a ∷ ls) (b ∷ ms) zip =
    subst (λ t. AllZip R (if t then a ∷ filter p ls else filter p ls) (filter q (b ∷ ms))) (sym (same a b zip.0))
    (kept R a b (filter p ls) (filter q ms) (q b) zip.0 (filtered R p q same ls ms zip.1))

pub to_is : (partner : ℕ) (cs : List CheckedInterchange) (xs : List Answered) → AllZip IsAnswered cs xs
    → AllZip IsAnswered (old_text.acknowledged_to partner cs) (room.acknowledged_to partner xs)
to_is partner cs xs zip = filtered IsAnswered (old_text.is_acknowledged_to partner) (room.is_acknowledged_to partner)
    (is_to partner) cs xs zip

from_are : (room_setup : Setup) (setup : SetupValue) (p : Partner) (at : List ℕ) (k g : ℕ) (cs : List CheckedInterchange)
    (xs : List Answered)
    → room_setup.hub ≡ setup.hub → AllZip IsAnswered cs xs
    → room.acknowledgments_after room_setup p at k g xs ≡ old_text.acknowledgments_from setup p at k g cs
from_are room_setup setup p at k g [] [] hub zip = refl
from_are room_setup setup p at k g (c ∷ cs) [] hub zip = absurd zip
from_are room_setup setup p at k g [] (x ∷ xs) hub zip = absurd zip
from_are room_setup setup p at k g (c ∷ cs) (x ∷ xs) hub zip =
    let a : old.Acknowledgment = acknowledgment x in
    let number : ℕ = num p.counters.interchange k in
    let control : ℕ = num p.counters.group g in
    ap (λ t. t ++ room.acknowledgments_after room_setup p at (k + 1) (g + room.group_total x) xs)
    (text_is room_setup p at number control x zip.0.codes)
    ∙ ap (λ h. old.acknowledgment_text (envelope_between h p) at number control a
    ++ room.acknowledgments_after room_setup p at (k + 1) (g + room.group_total x) xs) hub
    ∙ ap (λ n. old.acknowledgment_text (envelope_between setup.hub p) at number control a
    ++ room.acknowledgments_after room_setup p at (k + 1) (g + n) xs) (total_is x)
    ∙ ap (λ t. old.acknowledgment_text (envelope_between setup.hub p) at number control a ++ t)
    (from_are room_setup setup p at (k + 1) (g + old.acknowledgment_group_count a) cs xs hub zip.1)
    ∙ ap (λ a. old.acknowledgment_text (envelope_between setup.hub p) at number control a
    ++ old_text.acknowledgments_from setup p at (k + 1) (g + old.acknowledgment_group_count a) cs) (sym zip.0.acknowledgment)

groups_are : (cs : List CheckedInterchange) (xs : List Answered) → AllZip IsAnswered cs xs → room_night.groups_in xs
    ≡ old_text.groups_to cs
groups_are [] [] zip = refl
groups_are (c ∷ cs) [] zip = absurd zip
groups_are [] (x ∷ xs) zip = absurd zip
groups_are (c ∷ cs) (x ∷ xs) zip =
    sum_by-cons room.group_total x xs
    ∙ ap (λ n. n + room_night.groups_in xs) (total_is x ∙ ap old.acknowledgment_group_count (sym zip.0.acknowledgment))
    ∙ ap (λ n. old.acknowledgment_group_count (old_text.acknowledgment_of c) + n) (groups_are cs xs zip.1)

pub all_are : (room_setup : Setup) (setup : SetupValue) (place : ℕ) (p : Partner) (at : List ℕ) (cs : List CheckedInterchange)
    (xs : List Answered)
    → room_setup.hub ≡ setup.hub → AllZip IsAnswered cs xs
    → (room_night.ack_of room_setup at xs place p ≡ (old_text.acknowledgments_to setup at cs place p).text)
    × (length (room.acknowledged_to place xs) ≡ (old_text.acknowledgments_to setup at cs place p).count)
    × (room_night.groups_in (room.acknowledged_to place xs) ≡ (old_text.acknowledgments_to setup at cs place p).groups)
all_are room_setup setup place p at cs xs hub zip =
    let to : AllZip IsAnswered (old_text.acknowledged_to place cs) (room.acknowledged_to place xs) = to_is place cs xs zip in (
      from_are room_setup setup p at 0 0 (old_text.acknowledged_to place cs) (room.acknowledged_to place xs) hub to,
      AllZip-long IsAnswered (old_text.acknowledged_to place cs) (room.acknowledged_to place xs) to,
      groups_are (old_text.acknowledged_to place cs) (room.acknowledged_to place xs) to,
    )

pub answers_are_one : AnswersAreOne
answers_are_one = record {
  note = note_is;
  text = text_is;
  total = total_is;
  to = to_is;
  all = all_are;
}
