-- The faults 1 to 7 of an interchange are those of its entry.
use Rattle.std.proofs.Common.{◌≡◌, ℕ, suc, List, [], ◌∷◌, Bool, true, false, not, ◌&&◌, cond, Option, Some, None, length, refl, ap, ◌∙◌}
use Rattle.std.specs.Prelude.{option_map, is_some, is_none, ◌==◌}
use Rattle.std.specs.List.{list_all}
use Rattle.std.specs.Option.{option_map_or}
use Rattle.std.specs.Char.{is_ascii_uppercase}
use Rattle.hub_kinds.specs.Words.{number_of}
use Rattle.hub_kinds.specs.Words as kinds
use Rattle.hub_kinds.specs.declared.interchange.InterchangeFault.{InterchangeFault}
use Rattle.hub_kinds.specs.declared.interchange.InterchangeFault.TheVariants as isa
use Rattle.x12_segs.specs.Words.{SegValue, element_of}
use Rattle.env_index.specs.declared.entry.SetEnvelope.{SetEnvelope}
use Rattle.env_index.specs.Words as then
use Rattle.env_index.specs.Faults.{is_some_number}
use Rattle.night_definition.specs.Segments.{Segment, element}
use Rattle.night_definition.specs.Envelopes.{Set, Group}
use Rattle.night_definition.specs.Interchanges.{Interchange}
use Rattle.night_definition.specs.Setup.{is_number, is_gs, is_st, first_true, control_number}
use Rattle.night_equal_text.specs.Seen.{seen}
use Rattle.night_equal_text.specs.Kept.{AreSetsKept, AreGroupsKept, IsKept}
use Rattle.night_equal_text.specs.Faulty.{fault_with_iea, fault_to_seven}

is_number_is : (m : Option ℕ) (n : ℕ) → is_number m n ≡ is_some_number m n
is_number_is None n = refl
is_number_is (Some m) n = refl

some_if : (b : Bool) (n : ℕ) → is_some (cond b (Some n) None) ≡ b
some_if true n = refl
some_if false n = refl

gs_is : (s : SegValue) → is_gs (seen s).elements ≡ then.is_group_header s
gs_is s = ap (λ b. (length (element_of s 1) == 2) && list_all is_ascii_uppercase (element_of s 1) && b
    && kinds.is_word 1 12 (element_of s 8))
    (some_if (kinds.is_number 9 (element_of s 6)) (kinds.value_of (element_of s 6)))

sts_are : (ss : List Set) (es : List SetEnvelope) → AreSetsKept ss es
    → list_all (λ s. is_st s.header.elements) ss ≡ list_all (λ e. then.is_set_header e.header) es
sts_are [] [] kept = refl
sts_are [] (e ∷ es) kept = absurd kept
sts_are (s ∷ ss) [] kept = absurd kept
sts_are (s ∷ ss) (e ∷ es) kept =
    ap (λ (h : Segment). is_st h.elements && list_all (λ s. is_st s.header.elements) ss) kept.0.header
    ∙ ap (λ b. then.is_set_header e.header && b) (sts_are ss es kept.1)

all_sts_are : (gs : List Group) (es : List then.GroupEntry) → AreGroupsKept gs es
    → list_all (λ g. list_all (λ s. is_st s.header.elements) g.sets) gs ≡ list_all then.has_set_headers es
all_sts_are [] [] kept = refl
all_sts_are [] (e ∷ es) kept = absurd kept
all_sts_are (g ∷ gs) [] kept = absurd kept
all_sts_are (g ∷ gs) (e ∷ es) kept =
    ap (λ b. b && list_all (λ g. list_all (λ s. is_st s.header.elements) g.sets) gs) (sts_are g.sets e.sets kept.0.sets)
    ∙ ap (λ b. then.has_set_headers e && b) (all_sts_are gs es kept.1)

gs_are : (gs : List Group) (es : List then.GroupEntry) → AreGroupsKept gs es
    → list_all (λ g. is_gs g.header.elements) gs ≡ list_all (λ e. then.is_group_header e.header) es
gs_are [] [] kept = refl
gs_are [] (e ∷ es) kept = absurd kept
gs_are (g ∷ gs) [] kept = absurd kept
gs_are (g ∷ gs) (e ∷ es) kept =
    ap (λ (h : Segment). is_gs h.elements && list_all (λ g. is_gs g.header.elements) gs) kept.0.header
    ∙ ap (λ b. b && list_all (λ g. is_gs g.header.elements) gs) (gs_is e.header)
    ∙ ap (λ b. then.is_group_header e.header && b) (gs_are gs es kept.1)

as_many : (gs : List Group) (es : List then.GroupEntry) → AreGroupsKept gs es → length gs ≡ length es
as_many [] [] kept = refl
as_many [] (e ∷ es) kept = absurd kept
as_many (g ∷ gs) [] kept = absurd kept
as_many (g ∷ gs) (e ∷ es) kept = ap suc (as_many gs es kept.1)

-- the first of the faults behind a control number
abbrev first_of : (same counts misplaced headers sets : Bool) → Option InterchangeFault
first_of same counts misplaced headers sets = first_true (
    (not same, isa.ControlNumbersDiffer) ∷ (not counts, isa.GroupCountWrong) ∷ (misplaced, isa.SegmentMisplaced)
    ∷ (not headers, isa.GroupHeaderInvalid) ∷ (not sets, isa.SetHeaderInvalid) ∷ [])

abbrev by_control : Option ℕ → Interchange → List (List ℕ) → Option InterchangeFault
by_control control x iea = first_true (
    (is_none control, isa.ControlNumberInvalid)
    ∷ (not (is_number (number_of 9 (element 2 iea)) (option_map_or (λ n. n) control 0)), isa.ControlNumbersDiffer)
    ∷ (not (is_number (number_of 5 (element 1 iea)) (length x.content.groups)), isa.GroupCountWrong)
    ∷ (x.content.misplaced, isa.SegmentMisplaced)
    ∷ (not (list_all (λ g. is_gs g.header.elements) x.content.groups), isa.GroupHeaderInvalid)
    ∷ (not (list_all (λ g. list_all (λ s. is_st s.header.elements) g.sets) x.content.groups), isa.SetHeaderInvalid)
    ∷ [])

with_trailer : (x : Interchange) (e : then.InterchangeEntry) → IsKept x e → (trailer : SegValue) (control : Option ℕ)
    → by_control control x (seen trailer).elements ≡ then.fault_with e trailer control
with_trailer x e kept trailer None = refl
with_trailer x e kept trailer (Some control) =
    let count : Bool = is_number (number_of 5 (element_of trailer 1)) (length x.content.groups) in
    let headers : Bool = list_all (λ g. is_gs g.header.elements) x.content.groups in
    let sets : Bool = list_all (λ g. list_all (λ s. is_st s.header.elements) g.sets) x.content.groups in
    let is_count : count ≡ then.counts_groups trailer (length e.content.groups)
    = is_number_is (number_of 5 (element_of trailer 1)) (length x.content.groups)
    ∙ ap (then.counts_groups trailer) (as_many x.content.groups e.content.groups kept.content.groups) in
    ap (λ b. first_of b count x.content.misplaced headers sets) (is_number_is (number_of 9 (element_of trailer 2)) control)
    ∙ ap (λ b. first_of (then.has_control trailer control) b x.content.misplaced headers sets) is_count
    ∙ ap (λ b. first_of (then.has_control trailer control) (then.counts_groups trailer (length e.content.groups)) b headers sets)
    kept.content.misplaced
    ∙ ap (λ b. first_of (then.has_control trailer control) (then.counts_groups trailer
    (length e.content.groups)) e.content.misplaced b sets)
    (gs_are x.content.groups e.content.groups kept.content.groups)
    ∙ ap (λ b. first_of (then.has_control trailer control) (then.counts_groups trailer (length e.content.groups)) e.content.misplaced
    (list_all (λ g. then.is_group_header g.header) e.content.groups) b)
    (all_sts_are x.content.groups e.content.groups kept.content.groups)

by_trailer : (x : Interchange) (e : then.InterchangeEntry) → IsKept x e → (trailer : Option SegValue)
    → fault_with_iea x (option_map seen trailer) ≡ then.fault_by e trailer
by_trailer x e kept None = refl
by_trailer x e kept (Some trailer) =
    ap (λ h. by_control (control_number h) x (seen trailer).elements) kept.header
    ∙ with_trailer x e kept trailer (then.control_number e.header)

pub faults_are_one : (x : Interchange) (e : then.InterchangeEntry) → IsKept x e → fault_to_seven x ≡ then.fault_of e
faults_are_one x e kept = ap (fault_with_iea x) kept.content.iea ∙ by_trailer x e kept e.content.trailer
