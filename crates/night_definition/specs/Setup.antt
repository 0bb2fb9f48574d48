-- own: who sends, who receives, which guide applies; and why an interchange is refused (X12.5, X12.6: its envelopes).
use Rattle.std.specs.Prelude.{ℕ, ◌-◌, ◌==◌, Bool, false, not, ◌&&◌, List, [], ◌∷◌, ◌++◌, length, take, Option, Some, None}
use Rattle.std.specs.Prelude.{if◌then◌else◌, bytes_eq, find, filter_map, slice_get, is_some, is_none, position}
use Rattle.std.specs.Option.{option_map_or}
use Rattle.std.specs.List.{list_all, list_any, suffix_len}
use Rattle.std.specs.Char.{is_ascii_uppercase}
use Rattle.hub_kinds.specs.declared.interchange.InterchangeFault.{InterchangeFault}
use Rattle.hub_kinds.specs.declared.interchange.InterchangeFault.TheVariants as isa
use Rattle.guide_tree.specs.Tree.{GuideTree}
use Rattle.partner_setup.specs.declared.partner.Partner.{Partner}
use Rattle.partner_setup.specs.declared.partner.Route.{Route}
use Rattle.partner_setup.specs.declared.rows.HubRow.{HubRow}
use Rattle.night_definition.specs.Header.{field, number_of, is_word}
use Rattle.night_definition.specs.Segments.{Segment, Elements, element}
use Rattle.night_definition.specs.Interchanges.{Interchange}

pub record Setup : Type 0 where
  pub hub : HubRow
  pub partners : List Partner
  pub routes : List Route
  pub guides : List GuideTree

abbrev pub without_trailing_spaces : List ℕ → List ℕ
without_trailing_spaces text = take (length text - suffix_len (λ b. b == 32) text) text

-- the number of the partner that ISA05 and ISA06 name
abbrev pub sender_of : Setup → (header : List ℕ) → Option ℕ
sender_of setup header =
    position (λ p. bytes_eq p.qualifier (field 5 header) && bytes_eq p.id (without_trailing_spaces (field 6 header))) setup.partners

-- the numbers of the partners that get the sets of a GS03
abbrev pub route_of : Setup → (gs03 : List ℕ) → List ℕ
route_of setup gs03 = option_map_or (λ r. r.to) (find (λ (r : Route). bytes_eq r.code gs03) setup.routes) []

abbrev pub guides_of : Setup → (partner : ℕ) → List GuideTree
guides_of setup partner =
    option_map_or (λ (p : Partner). filter_map (slice_get setup.guides) p.guides) (slice_get setup.partners partner) []

-- the partner's guide for a GS01, a GS08 and an ST01
abbrev pub guide_of : Setup → (partner : ℕ) → (gs : Elements) → (st01 : List ℕ) → Option GuideTree
guide_of setup partner gs st01 =
    find (λ g. bytes_eq g.head.group (element 1 gs) && bytes_eq g.head.version (element 8 gs) && bytes_eq g.head.set st01)
    (guides_of setup partner)

abbrev pub is_number : Option ℕ → ℕ → Bool
is_number m n = option_map_or (λ k. k == n) m false

abbrev pub control_number : (header : List ℕ) → Option ℕ
control_number header = if length (field 13 header) == 9 then number_of 9 (field 13 header) else None

abbrev pub is_gs : Elements → Bool
is_gs s = length (element 1 s) == 2 && list_all is_ascii_uppercase (element 1 s) && is_some (number_of 9 (element 6 s))
    && is_word 1 12 (element 8 s)

abbrev pub is_st : Elements → Bool
is_st s = is_word 3 3 (element 1 s) && is_word 1 9 (element 2 s)

abbrev pub first_true : {A : Type 0} → List (Bool × A) → Option A
first_true [] = None
first_true (x ∷ xs) = if x.0 then Some x.1 else first_true xs

-- faults 2 to 7
abbrev pub fault_by : Interchange → (iea : Elements) → Option InterchangeFault
fault_by x iea =
    let control = control_number x.header in
    first_true (
    (is_none control, isa.ControlNumberInvalid)
    ∷ (not (is_number (number_of 9 (element 2 iea)) (option_map_or (λ n. n) control 0)), isa.ControlNumbersDiffer)
    ∷ (not (is_number (number_of 5 (element 1 iea)) (length x.content.groups)), isa.GroupCountWrong)
    ∷ (x.content.misplaced, isa.SegmentMisplaced)
    ∷ (not (list_all (λ g. is_gs g.header.elements) x.content.groups), isa.GroupHeaderInvalid)
    ∷ (not (list_all (λ g. list_all (λ s. is_st s.header.elements) g.sets) x.content.groups), isa.SetHeaderInvalid)
    ∷ [])

-- the least of the faults 1 to 8
abbrev pub fault_alone : Setup → Interchange → Option InterchangeFault
fault_alone setup x = by x.content.iea where
  or_sender : Option InterchangeFault → Option InterchangeFault
  or_sender (Some fault) = Some fault
  or_sender None = if is_some (sender_of setup x.header) then None else Some isa.SenderUnknown

  by : Option Segment → Option InterchangeFault
  by None = Some isa.TrailerMissing
  by (Some iea) = or_sender (fault_by x iea.elements)

-- ISA05 to ISA08 and ISA13
abbrev pub key_of : (header : List ℕ) → List ℕ
key_of header = field 5 header ++ field 6 header ++ field 7 header ++ field 8 header ++ field 13 header

-- fault 9: an earlier interchange without one of the faults 1 to 8 has the same key
abbrev pub fault_after : Setup → (before : List Interchange) → Interchange → Option InterchangeFault
fault_after setup before x = by (fault_alone setup x) where
  by : Option InterchangeFault → Option InterchangeFault
  by (Some fault) = Some fault
  by None =
      if list_any (λ y. is_none (fault_alone setup y) && bytes_eq (key_of y.header) (key_of x.header)) before
      then Some isa.Duplicate else None

-- an interchange with its sender and its least fault
pub record Judged : Type 0 where
  pub interchange : Interchange
  pub sender : Option ℕ
  pub fault : Option InterchangeFault

abbrev pub judged_after : Setup → (before : List Interchange) → List Interchange → List Judged
judged_after setup before [] = []
judged_after setup before (x ∷ xs) =
    record { interchange = x; sender = sender_of setup x.header; fault = fault_after setup before x }
    ∷ judged_after setup (before ++ x ∷ []) xs
