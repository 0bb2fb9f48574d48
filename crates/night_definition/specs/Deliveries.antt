-- own: which sets go to which partner, and the mailbox that they make (X12.5, X12.6: its envelopes).
use Rattle.std.specs.Prelude.{ℕ, ◌+◌, ◌*◌, ◌/◌, ◌%◌, ◌==◌, Bool, true, false, not, ◌&&◌, List, [], ◌∷◌, ◌++◌, map, length, take, drop}
use Rattle.std.specs.Prelude.{if◌then◌else◌, codes, decimal, bytes_eq, filter, flat_map, unwrap_or, slice_get}
use Rattle.std.specs.Option.{option_map_or}
use Rattle.std.specs.List.{list_any, range_with_len}
use Rattle.x12_bytes.specs.declared.delims.Delims.{Delims}
use Rattle.partner_setup.specs.declared.partner.Partner.{Partner}
use Rattle.hub_kinds.specs.declared.set_codes.GroupCode.{GroupCode}
use Rattle.night_definition.specs.Segments.{Elements, element}
use Rattle.night_definition.specs.Elements.{is_this, numbered}
use Rattle.night_definition.specs.Setup.{Setup, route_of}
use Rattle.night_definition.specs.Answers.{Answer, AnsweredGroup, Answered, is_rejected}
use Rattle.night_definition.specs.Written.{isa_text, iea_text, group_text, segment_text, set_number}
use Rattle.night_definition.specs.Acknowledgments.{is_delimiter, num}

-- an answered set with its delimiters, the number of its sender, and its GS
pub record Sent : Type 0 where
  pub delims : Delims
  pub sender : ℕ
  pub gs : Elements
  pub answer : Answer

abbrev pub has_no_code : List GroupCode → Bool
has_no_code [] = true
has_no_code (c ∷ cs) = false

-- a set may be delivered: its verdict isn't R, and its group has no code and isn't FA
abbrev pub is_deliverable : AnsweredGroup → Answer → Bool
is_deliverable g a = not (is_rejected a.verdict) && has_no_code g.codes && not g.is_fa

-- a set is blocked: apart from ST02 and SE it has a byte that is a delimiter of the receiver and not one of the sender
abbrev pub is_blocked : (to : Delims) → Sent → Bool
is_blocked to s =
    let st = s.answer.set.header.elements in
    list_any (λ e. list_any (λ b. is_delimiter to b && not (is_delimiter s.delims b)) e)
    (take 2 st ++ drop 3 st ++ flat_map (λ x. x.elements) s.answer.set.inner)

-- the outcome of a set that may be delivered
pub data Outcome : Type 0 where
  delivered : (partner : ℕ) → Outcome
  held_for_delimiter : (partner : ℕ) → Outcome
  held_for_route : Outcome

abbrev pub outcome_at : Setup → Sent → (partner : ℕ) → Outcome
outcome_at setup s to =
    option_map_or (λ (p : Partner). if is_blocked p.delims s then held_for_delimiter to else delivered to)
    (slice_get setup.partners to) held_for_route

abbrev pub outcomes_on : Setup → Sent → (route : List ℕ) → List Outcome
outcomes_on setup s [] = held_for_route ∷ []
outcomes_on setup s (to ∷ more) = map (outcome_at setup s) (to ∷ more)

abbrev pub outcomes : Setup → AnsweredGroup → Sent → List Outcome
outcomes setup g s = if is_deliverable g s.answer then outcomes_on setup s (route_of setup (element 3 s.gs)) else []

abbrev pub sent : Answered → AnsweredGroup → Answer → Sent
sent x g a = record {
  delims = x.judged.interchange.delims;
  sender = unwrap_or x.judged.sender 0;
  gs = g.group.header.elements;
  answer = a;
}

abbrev pub is_delivered_to : (partner : ℕ) → Outcome → Bool
is_delivered_to partner (delivered to) = to == partner
is_delivered_to partner outcome = false

-- in the order of the text
abbrev pub delivered_to : Setup → (partner : ℕ) → List Answered → List Sent
delivered_to setup partner xs =
    flat_map (λ (x : Answered). flat_map (λ g.
    filter (λ s. list_any (is_delivered_to partner) (outcomes setup g s)) (map (sent x g) g.answers)) x.groups) xs

-- the number of interchanges that a number of sets takes
abbrev pub interchange_count : (cap sets : ℕ) → ℕ
interchange_count cap sets = if sets % cap == 0 then sets / cap else sets / cap + 1

-- interchange m has `cap` sets from m * cap on
abbrev pub interchanges_of : {A : Type 0} → (cap : ℕ) → List A → List (List A)
interchanges_of cap xs = map (λ m. take cap (drop (m * cap) xs)) (range_with_len 0 (interchange_count cap (length xs)))

-- consecutive sets of one sender, GS01 and GS08 make one group
abbrev pub goes_with : Sent → Sent → Bool
goes_with a b = a.sender == b.sender && bytes_eq (element 1 a.gs) (element 1 b.gs) && bytes_eq (element 8 a.gs) (element 8 b.gs)

abbrev pub onto_groups : ℕ × Sent → List (List (ℕ × Sent)) → List (List (ℕ × Sent))
onto_groups x [] = (x ∷ []) ∷ []
onto_groups x ([] ∷ groups) = (x ∷ []) ∷ [] ∷ groups
onto_groups x ((y ∷ ys) ∷ groups) = if goes_with x.1 y.1 then (x ∷ y ∷ ys) ∷ groups else (x ∷ []) ∷ (y ∷ ys) ∷ groups

abbrev pub groups_of : List (ℕ × Sent) → List (List (ℕ × Sent))
groups_of [] = []
groups_of (x ∷ xs) = onto_groups x (groups_of xs)

-- the sender's delimiters become the receiver's
abbrev pub mapped : (from to : Delims) → List ℕ → List ℕ
mapped from to text = map (λ b.
    if b == from.element then to.element
    else if b == from.component then to.component
    else if b == from.terminator then to.terminator
    else if is_this from.repetition b then unwrap_or to.repetition b
    else b) text

abbrev pub elements_text : (from to : Delims) → Elements → List ℕ
elements_text from to [] = []
elements_text from to (id ∷ es) = mapped from to id ++ flat_map (λ e. to.element ∷ mapped from to e) es

-- a set with a new ST02, its segments with all their elements, and a new SE
abbrev pub set_text : (to : Delims) → (control : ℕ) → Sent → List ℕ
set_text to control s =
    let st = s.answer.set.header.elements in
    let inner = s.answer.set.inner in
    elements_text s.delims to (take 2 st) ++ to.element ∷ set_number control
    ++ flat_map (λ e. to.element ∷ mapped s.delims to e) (drop 3 st) ++ to.terminator ∷ []
    ++ flat_map (λ x. elements_text s.delims to x.elements ++ to.terminator ∷ []) inner
    ++ segment_text to (codes "SE") (decimal (length inner + 2) ∷ set_number control ∷ [])

abbrev pub code_of : Setup → (partner : ℕ) → List ℕ
code_of setup partner = option_map_or (λ (p : Partner). p.code) (slice_get setup.partners partner) []

-- a group of sets, each with its number among those delivered to the partner
abbrev pub delivered_group : Setup → Partner → (at : List ℕ) → (control : ℕ) → List (ℕ × Sent) → List ℕ
delivered_group setup p at control [] = []
delivered_group setup p at control (x ∷ xs) =
    group_text p.delims at (element 1 x.1.gs) (code_of setup x.1.sender) p.code control (element 8 x.1.gs)
    (map (λ y. set_text p.delims (num p.counters.set y.0) y.1) (x ∷ xs))

abbrev pub delivered_interchange : Setup → Partner → (at : List ℕ) → (number groups : ℕ) → List (ℕ × Sent) → List ℕ
delivered_interchange setup p at number before sets =
    isa_text setup.hub p at number
    ++ flat_map (λ g. delivered_group setup p at (num p.counters.group g.0) g.1) (numbered before (groups_of sets))
    ++ iea_text p.delims (length (groups_of sets)) number

-- a mailbox: its interchanges and groups continue the numbers of the partner's acknowledgments
abbrev pub box_after : Setup → Partner → (at : List ℕ) → (k groups : ℕ) → List (List (ℕ × Sent)) → List ℕ
box_after setup p at k groups [] = []
box_after setup p at k groups (sets ∷ more) =
    delivered_interchange setup p at (num p.counters.interchange k) groups sets
    ++ box_after setup p at (k + 1) (groups + length (groups_of sets)) more
