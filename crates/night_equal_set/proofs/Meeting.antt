-- That a set meets its guide.
use Rattle.std.proofs.Common.{◌≡◌, ◌↔◌, ℕ, ◌≤◌, List, [], ◌∷◌, ◌++◌, map, length, Bool, true, false, ◌&&◌, not, Option, Some, None, refl}
use Rattle.std.proofs.Common.{sym, ap, ◌∙◌, subst, arith}
use Rattle.std.specs.Prelude.{IsTrue, IsFalse, bytes_eq, if◌then◌else◌, option_map, filter, is_some, ◌==◌}
use mathlib.Core.Logic.{◌⊎◌, inl, inr}
use Rattle.std.specs.List.{Contains, list_all, list_any}
use Rattle.std.specs.Option.{option_map_or}
use Rattle.std.proofs.lemmas.Bool.{false≢true, true≢false}
use Rattle.std.proofs.lemmas.Option.{none-some, same_Some}
use Rattle.std.proofs.lemmas.Slice.Eq.{bytes_eq-Decides}
use Rattle.std.proofs.lemmas.List.Elements.{Contains-append_left}
use Rattle.x12_bytes.specs.declared.delims.Delims.{Delims}
use Rattle.x12_segs.specs.Words.{SegValue, elements_of, element_of}
use Rattle.hub_kinds.specs.Words.{number_of}
use Rattle.hub_kinds.specs.declared.fault.ElemFault.{ElemFault}
use Rattle.hub_kinds.specs.declared.set_codes.SetCode.{SetCode}
use Rattle.hub_kinds.specs.declared.set_codes.SetCode.TheVariants as ik502
use Rattle.guide_tree.specs.Tree.{GuideTree}
use Rattle.guide_tree.specs.declared.rows.HlRule.{HlRule}
use Rattle.guide_tree.specs.declared.rows.Dependency.{Dependency}
use Rattle.elem_rules.specs.Divided.{is_empty}
use Rattle.elem_rules.specs.ElementFaults.{IsElementFault}
use Rattle.elem_rules.proofs.ForAbove.{no_member, one_contains}
use Rattle.hl_check.specs.Hierarchy as old_hl
use Rattle.depend_check.specs.Kept as old_kept
use Rattle.depend_check.specs.Standing as old_standing
use Rattle.set_check.specs.SetParts.{SetParts, segments_of_set}
use Rattle.set_check.specs.Meets as old
use Rattle.night_definition.specs.Segments.{Segment, Elements, element}
use Rattle.night_definition.specs.Envelopes.{Set}
use Rattle.night_definition.specs.Guides.{Given}
use Rattle.night_definition.specs.Elements.{is_filled, element_faults}
use Rattle.night_definition.specs.Rules as room_rules
use Rattle.night_definition.specs.Sets as room
use Rattle.night_equal_set.specs.Parts.{IsThatSet}
use Rattle.night_equal_set.specs.Meeting.{IsConditioned, MeetingsAreOne}
use Rattle.night_equal_set.proofs.Derivations.{derived}
use Rattle.night_equal_set.proofs.Hierarchies.{whole}
use Rattle.night_equal_set.proofs.ElementFaults as law
use Rattle.night_equal_set.proofs.SetCodes.{size_is}
use Rattle.night_equal_set.proofs.Targets.{targets, trigger_is, any_same}

nothing : {A : Type 0} (xs : List A) → ((x : A) → Contains xs x → ⊥) → xs ≡ []
nothing [] none = refl
nothing (x ∷ xs) none = absurd (none x (Contains-append_left (x ∷ []) xs x (one_contains x)))

-- a trailer that shows no code
abbrev IsRight : Set → Elements → Type 0
IsRight set se = (number_of 10 (element 1 se) ≡ Some (room.segment_count set)) × (element 2 se ≡ room.control_of set)

empty_codes : (a b : Bool) → room.code_if (not a) ik502.ControlNumbersDiffer ++ room.code_if (not b) ik502.SegmentCountWrong ≡ []
    → (a ≡ true) × (b ≡ true)
empty_codes true true is = (refl, refl)
empty_codes true false is = absurd (nonempty _ _ is)
  where
    nonempty : (c : SetCode) (cs : List SetCode) → c ∷ cs ≡ [] → ⊥
    nonempty c cs is = let l : length (c ∷ cs) ≡ 0 = ap length is in omega (arith, l)
empty_codes false b is = absurd (nonempty _ _ is)
  where
    nonempty : (c : SetCode) (cs : List SetCode) → c ∷ cs ≡ [] → ⊥
    nonempty c cs is = let l : length (c ∷ cs) ≡ 0 = ap length is in omega (arith, l)

counted : (n : ℕ) (o : Option ℕ) → option_map_or (λ m. m == n) o false ≡ true → o ≡ Some n
counted n None is = absurd (false≢true is)
counted n (Some m) is = ap Some (same m n is)
  where
    same : (m n : ℕ) → (m == n) ≡ true → m ≡ n
    same m n is = grind arith

counts : (n : ℕ) → option_map_or (λ m. m == n) (Some n) false ≡ true
counts n = grind arith

abbrev codes_of : Set → Option Segment → List SetCode
codes_of set trailer =
    option_map_or (λ (se : Segment).
    room.code_if (not (bytes_eq (element 2 se.elements) (room.control_of set))) ik502.ControlNumbersDiffer
    ++ room.code_if (not (room.is_counted set se.elements)) ik502.SegmentCountWrong)
    trailer (ik502.TrailerMissing ∷ [])

closed_to : (set : Set) (u : Option Segment) → codes_of set u ≡ [] → (se : Segment) × (u ≡ Some se) × IsRight set se.elements
closed_to set None is = let l : 1 ≡ 0 = ap length is in absurd (omega (arith, l))
closed_to set (Some se) is =
    let both = empty_codes (bytes_eq (element 2 se.elements) (room.control_of set)) (room.is_counted set se.elements) is in (
      se,
      refl,
      (
        counted (room.segment_count set) (number_of 10 (element 1 se.elements)) both.1,
        (bytes_eq-Decides (element 2 se.elements) (room.control_of set)).0 both.0,
      ),
    )

closed_from : (set : Set) (se : Segment) → IsRight set se.elements → codes_of set (Some se) ≡ []
closed_from set se (count, control) =
    ap (λ b. room.code_if (not b) ik502.ControlNumbersDiffer ++ room.code_if
    (not (room.is_counted set se.elements)) ik502.SegmentCountWrong)
    ((bytes_eq-Decides (element 2 se.elements) (room.control_of set)).1 control)
    ∙ ap (λ b. room.code_if (not b) ik502.SegmentCountWrong)
    (ap (λ o. option_map_or (λ n. n == room.segment_count set) o false) count ∙ counts (room.segment_count set))

-- the trailers on both sides
same_some : (t : Option SegValue) (se : Segment) → option_map elements_of t ≡ Some se.elements → (v : SegValue) × (t ≡ Some v)
    × (elements_of v ≡ se.elements)
same_some None se is = absurd (none-some se.elements is)
same_some (Some v) se is = (v, refl, same_Some (elements_of v) se.elements is)

other_some : (u : Option Segment) (v : SegValue) → Some (elements_of v) ≡ option_map (λ (s : Segment). s.elements) u
    → (se : Segment) × (u ≡ Some se) × (elements_of v ≡ se.elements)
other_some None v is = absurd (none-some (elements_of v) (sym is))
other_some (Some se) v is = (se, refl, same_Some (elements_of v) se.elements is)

convention_to : (d : Delims) (o : Option (List ℕ)) (st03 : List ℕ) → option_map_or
    (λ own. is_filled d st03 && not (bytes_eq st03 own)) o false ≡ false
    → old.MeetsConvention d o st03
convention_to d None st03 is = tt
convention_to d (Some own) st03 is = by (is_empty d st03) refl (bytes_eq st03 own) refl
  where
    by : (e : Bool) → is_empty d st03 ≡ e → (b : Bool) → bytes_eq st03 own ≡ b → IsTrue (is_empty d st03) ⊎ (st03 ≡ own)
    by true empty b same = inl empty
    by false filled true same = inr ((bytes_eq-Decides st03 own).0 same)
    by false filled false differ = absurd (true≢false (sym (ap (λ e. not e && not (bytes_eq st03 own)) filled ∙ ap not differ) ∙ is))

convention_from : (d : Delims) (o : Option (List ℕ)) (st03 : List ℕ) → old.MeetsConvention d o st03
    → option_map_or (λ own. is_filled d st03 && not (bytes_eq st03 own)) o false ≡ false
convention_from d None st03 is = refl
convention_from d (Some own) st03 is = elim is [
  | inl empty ↦ ap (λ e. not e && not (bytes_eq st03 own)) empty
  | inr same ↦ ap (λ b. is_filled d st03 && not b) ((bytes_eq-Decides st03 own).1 same) ∙ off (is_filled d st03)
]
  where
    off : (b : Bool) → (b && false) ≡ false
    off true = refl
    off false = refl

module _ (guide : Option GuideTree) (d : Delims) (set : Set) (parts : SetParts) (is : IsThatSet d set parts)
    (sound : (g : GuideTree) → guide ≡ Some g → IsConditioned g) where
  to : room.MeetsAlone guide d set → old.MeetsAlone guide parts
  to h =
      let closed = closed_to set set.trailer h.envelope in
      let trailer = same_some parts.trailer closed.0 (is.trailer ∙ ap (option_map (λ (s : Segment). s.elements)) closed.1) in
      record {
        known = h.known;
        guided = h.guided;
        slots = h.slots;
        body = h.body ∙ sym is.body;
        derived = (derived h.known.nodes h.slots).0 h.derived;
        elements = λ x e there wrong.
            no_member e (subst (λ l. Contains l e) (h.elements x there)
            ((law.element_faults d x.1 x.0 e (sound h.known h.guided h.slots x h.derived there)).1
            (subst (λ d. IsElementFault d x.0 x.1 e) is.delims wrong)));
        hierarchy = subst (λ b. old_hl.IsHierarchyWhole h.known.hl parts.delims (old_hl.hl_segments b)) (sym is.body)
            (subst (λ d. old_hl.IsHierarchyWhole h.known.hl d (old_hl.hl_segments (room.body_of set))) (sym is.delims)
            (levels h.known.hl h.hierarchy));
        dependencies = subst (λ d. old_kept.AreDependenciesKept h.known.depends d h.slots) (sym is.delims)
            (λ r there triggered. (targets d h.slots r).0
            (h.dependencies r there (any_same (room_rules.triggers r) (old_standing.triggers r) (trigger_is r) h.slots ∙ triggered)));
        trailer = trailer.0;
        closed = trailer.1;
        counted = ap (λ (se : Elements). number_of 10 (element 1 se)) trailer.2 ∙ closed.2.0 ∙ ap Some (sym (size_is d set parts is));
        same_control = ap (element 2) trailer.2 ∙ closed.2.1 ∙ ap (element 2) (sym is.header);
        long_control = subst (λ st. 4 ≤ length (element 2 st)) (sym is.header) h.control;
        convention = subst (λ e. old.MeetsConvention e h.known.head.convention (element_of parts.header 3)) (sym is.header_delims)
            (subst (λ st. old.MeetsConvention d h.known.head.convention (element 3 st)) (sym is.header)
            (convention_to d h.known.head.convention (element 3 set.header.elements) h.convention));
      }
    where
      levels : (o : Option HlRule) → ((rule : HlRule) → o ≡ Some rule
          → room.IsHierarchyWhole rule d (filter room_rules.is_hl (room.body_of set)))
          → old_hl.IsHierarchyWhole o d (old_hl.hl_segments (room.body_of set))
      levels None each = tt
      levels (Some rule) each = (whole rule d (filter room_rules.is_hl (room.body_of set))).0 (each rule refl)

  from : old.MeetsAlone guide parts → room.MeetsAlone guide d set
  from h =
      let trailer = other_some set.trailer h.trailer (sym (ap (option_map elements_of) h.closed) ∙ is.trailer) in
      record {
        known = h.known;
        guided = h.guided;
        slots = h.slots;
        body = h.body ∙ is.body;
        derived = (derived h.known.nodes h.slots).1 h.derived;
        elements = λ x there. nothing (element_faults d x.1 x.0) (λ e told.
            h.elements x e there (subst (λ d. IsElementFault d x.0 x.1 e) (sym is.delims)
            ((law.element_faults d x.1 x.0 e (sound h.known h.guided h.slots x
            ((derived h.known.nodes h.slots).1 h.derived) there)).0 told)));
        hierarchy = λ rule has. (whole rule d (filter room_rules.is_hl (room.body_of set))).1
            (subst (λ o. old_hl.IsHierarchyWhole o d (old_hl.hl_segments (room.body_of set))) has
            (subst (λ d. old_hl.IsHierarchyWhole h.known.hl d (old_hl.hl_segments (room.body_of set))) is.delims
            (subst (λ b. old_hl.IsHierarchyWhole h.known.hl parts.delims (old_hl.hl_segments b)) is.body h.hierarchy)));
        dependencies = λ r there triggered. (targets d h.slots r).1
            (subst (λ d. old_kept.IsTargetKept d h.slots r.target r.kind r.element) is.delims
            (h.dependencies r there (sym (any_same (room_rules.triggers r) (old_standing.triggers r) (trigger_is r) h.slots)
            ∙ triggered)));
        envelope = ap (codes_of set) trailer.1
            ∙ closed_from set trailer.0 (
              ap (λ (se : Elements). number_of 10 (element 1 se)) (sym trailer.2) ∙ h.counted ∙ ap Some (size_is d set parts is),
              ap (element 2) (sym trailer.2) ∙ h.same_control ∙ ap (element 2) is.header,
            );
        control = subst (λ st. 4 ≤ length (element 2 st)) is.header h.long_control;
        convention = convention_from d h.known.head.convention (element 3 set.header.elements)
            (subst (λ st. old.MeetsConvention d h.known.head.convention (element 3 st)) is.header
            (subst (λ e. old.MeetsConvention e h.known.head.convention (element_of parts.header 3)) is.header_delims h.convention));
      }

pub meetings : MeetingsAreOne
meetings guide d set parts is sound = (to guide d set parts is sound, from guide d set parts is sound)
