-- The faults of HL segments.
use Rattle.std.proofs.Common.{◌≡◌, ◌↔◌, ℕ, zero, suc, ◌+◌, List, [], ◌∷◌, ◌++◌, map, take, drop, Bool, true, false, ◌&&◌, not, Option}
use Rattle.std.proofs.Common.{Some, None, refl, sym, ap, ◌∙◌, subst, arith}
use Rattle.std.specs.Prelude.{IsTrue, if◌then◌else◌, slice_get}
use mathlib.Core.Logic.{◌⊎◌, inl, inr}
use Rattle.std.specs.List.{Contains}
use Rattle.std.specs.Option.{option_map_or}
use Rattle.std.proofs.lemmas.List.{append_assoc, append-nil}
use Rattle.std.proofs.lemmas.Option.{none-some, same_Some}
use Rattle.std.proofs.lemmas.List.Elements.{Contains-append_left, Contains-append_right, Contains-append_cases}
use Rattle.x12_bytes.specs.declared.delims.Delims.{Delims}
use Rattle.hub_kinds.specs.declared.fault.Fault.{Fault}
use Rattle.hub_kinds.specs.declared.codes.ElementCode.{ElementCode}
use Rattle.hub_kinds.specs.declared.codes.ElementCode.TheVariants as ik403
use Rattle.hub_kinds.specs.declared.codes.SegmentCode.TheVariants as ik304
use Rattle.guide_tree.specs.declared.element.Element.{Element}
use Rattle.guide_tree.specs.declared.element.Element.TheVariants as row
use Rattle.guide_tree.specs.declared.rows.HlRule.{HlRule}
use Rattle.guide_tree.specs.declared.slot.Slot.{Slot}
use Rattle.elem_rules.specs.Rows.{element_reference}
use Rattle.elem_rules.specs.Rows as old_rows
use Rattle.elem_rules.proofs.ForAbove.{no_member, contains_one, one_contains}
use Rattle.loop_match.specs.PlacedSegments.{PlacedSegment}
use Rattle.hl_check.specs.Hierarchy as old
use Rattle.night_definition.specs.Segments.{Elements, element}
use Rattle.night_definition.specs.Places.{Use}
use Rattle.night_definition.specs.Elements.{wrong}
use Rattle.night_definition.specs.Elements as room_elements
use Rattle.night_definition.specs.Rules as room
use Rattle.night_equal_set.specs.Hl.{seen, HlFaultsAreOne}
use Rattle.night_equal_set.proofs.Hierarchies.{level_is}

row_reference : (r : Element) → room_elements.reference_of r 0 ≡ element_reference r
row_reference (row.NotUsed reference) = refl
row_reference (row.Simple r repeat) = refl
row_reference (row.Composite r) = refl

pub reference_same : (o : Option Element) → option_map_or (λ r. room_elements.reference_of r 0) o []
    ≡ option_map_or element_reference o []
reference_same None = refl
reference_same (Some r) = row_reference r

-- a fault of an element, by its reference number
abbrev shown : Use → ℕ → ElementCode → (reference : List ℕ) → Fault
shown x k code reference =
    room.use_fault x ik304.ElementErrors
    (Some (record { element = k; component = 0; repetition = 0; code = code; reference = reference; copy = element k x.segment }))

one : (x : Use) (code : ElementCode) → room.element_fault x 1 (wrong 0 0 code (element 1 x.segment)) ≡ old.hl_fault (seen x) 1 code
one x code = ap (shown x 1 code) (reference_same (slice_get x.spot.slot.elements 0))

two : (x : Use) (code : ElementCode) → room.element_fault x 2 (wrong 0 0 code (element 2 x.segment)) ≡ old.hl_fault (seen x) 2 code
two x code = ap (shown x 2 code) (reference_same (slice_get x.spot.slot.elements 1))

three : (x : Use) (code : ElementCode) → room.element_fault x 3 (wrong 0 0 code (element 3 x.segment)) ≡ old.hl_fault (seen x) 3 code
three x code = ap (shown x 3 code) (reference_same (slice_get x.spot.slot.elements 2))

four : (x : Use) (code : ElementCode) → room.element_fault x 4 (wrong 0 0 code (element 4 x.segment)) ≡ old.hl_fault (seen x) 4 code
four x code = ap (shown x 4 code) (reference_same (slice_get x.spot.slot.elements 3))

pub told_if : (b : Bool) (a f : Fault) → Contains (room.fault_if b a) f → (b ≡ true) × (f ≡ a)
told_if true a f c = (refl, contains_one a f c)
told_if false a f c = absurd (no_member f c)

pub if_told : (b : Bool) (a f : Fault) → b ≡ true → f ≡ a → Contains (room.fault_if b a) f
if_told b a f is same = subst (λ b. Contains (room.fault_if b a) f) (sym is)
    (subst (λ g. Contains (a ∷ []) g) (sym same) (one_contains a))

segments_are : (xs : List Use) → old.segments_of (map seen xs) ≡ map (λ (x : Use). x.segment) xs
segments_are [] = refl
segments_are (x ∷ xs) = ap (λ l. x.segment ∷ l) (segments_are xs)

module _ (rule : HlRule) (d : Delims) (f : Fault) where
  -- one of the four, by the segments before and behind
  abbrev Four : List Elements → PlacedSegment → List Elements → Type 0
  Four before h behind =
      (IsTrue (old.is_number_wrong rule d before h.segment) × (f ≡ old.hl_fault h 1 ik403.PatternFailure))
      ⊎ ((IsTrue (old.is_parent_wrong d before h.segment) × (f ≡ old.hl_fault h 2 ik403.PatternFailure))
      ⊎ ((IsTrue (old.is_level_wrong rule d before h.segment) × (f ≡ old.hl_fault h 3 ik403.CodeNotUsed))
      ⊎ (IsTrue (old.is_child_wrong d h.segment behind) × (f ≡ old.hl_fault h 4 ik403.PatternFailure))))

  abbrev first : List Elements → Use → List Fault
  first before x = room.fault_if (room.is_number_wrong rule d before x.segment)
      (room.element_fault x 1 (wrong 0 0 ik403.PatternFailure (element 1 x.segment)))

  abbrev second : List Elements → Use → List Fault
  second before x = room.fault_if (room.is_parent_wrong d before x.segment)
      (room.element_fault x 2 (wrong 0 0 ik403.PatternFailure (element 2 x.segment)))

  abbrev third : List Elements → Use → List Fault
  third before x = room.fault_if (room.is_level_wrong rule d before x.segment)
      (room.element_fault x 3 (wrong 0 0 ik403.CodeNotUsed (element 3 x.segment)))

  abbrev fourth : Use → List Elements → List Fault
  fourth x behind = room.fault_if (room.is_child_wrong d x.segment behind)
      (room.element_fault x 4 (wrong 0 0 ik403.PatternFailure (element 4 x.segment)))

  four_from : (before : List Elements) (x : Use) (behind : List Elements)
      → Contains (first before x ++ second before x ++ third before x ++ fourth x behind) f → Four before (seen x) behind
  four_from before x behind c = elim (Contains-append_cases (first before x ++ second before x ++ third before x) (fourth x behind) f c) [
    | inr e ↦ let r = told_if (room.is_child_wrong d x.segment behind) _ f e in inr (inr (inr (r.0, r.1 ∙ four x ik403.PatternFailure)))
    | inl c ↦ elim (Contains-append_cases (first before x ++ second before x) (third before x) f c) [
      | inr e ↦ let r = told_if (room.is_level_wrong rule d before x.segment) _ f e in
          inr (inr (inl (sym (level_is rule d before x.segment) ∙ r.0, r.1 ∙ three x ik403.CodeNotUsed)))
      | inl c ↦ elim (Contains-append_cases (first before x) (second before x) f c) [
        | inr e ↦ let r = told_if (room.is_parent_wrong d before x.segment) _ f e in inr (inl (r.0, r.1 ∙ two x ik403.PatternFailure))
        | inl e ↦ let r = told_if (room.is_number_wrong rule d before x.segment) _ f e in inl (r.0, r.1 ∙ one x ik403.PatternFailure)
      ]
    ]
  ]

  four_to : (before : List Elements) (x : Use) (behind : List Elements) → Four before (seen x) behind
      → Contains (first before x ++ second before x ++ third before x ++ fourth x behind) f
  four_to before x behind h = elim h [
    | inl r ↦ Contains-append_left (first before x ++ second before x ++ third before x) (fourth x behind) f
        (Contains-append_left (first before x ++ second before x) (third before x) f
        (Contains-append_left (first before x) (second before x) f (if_told _ _ f r.0 (r.1 ∙ sym (one x ik403.PatternFailure)))))
    | inr h ↦ elim h [
      | inl r ↦ Contains-append_left (first before x ++ second before x ++ third before x) (fourth x behind) f
          (Contains-append_left (first before x ++ second before x) (third before x) f
          (Contains-append_right (first before x) (second before x) f (if_told _ _ f r.0 (r.1 ∙ sym (two x ik403.PatternFailure)))))
      | inr h ↦ elim h [
        | inl r ↦ Contains-append_left (first before x ++ second before x ++ third before x) (fourth x behind) f
            (Contains-append_right (first before x ++ second before x) (third before x) f
            (if_told _ _ f (level_is rule d before x.segment ∙ r.0) (r.1 ∙ sym (three x ik403.CodeNotUsed))))
        | inr r ↦ Contains-append_right (first before x ++ second before x ++ third before x) (fourth x behind) f
            (if_told _ _ f r.0 (r.1 ∙ sym (four x ik403.PatternFailure)))
      ]
    ]
  ]

  -- one of these is, before which others stand
  abbrev Among : List Elements → List PlacedSegment → Type 0
  Among before hls = (n : ℕ) × (h : PlacedSegment) × (slice_get hls n ≡ Some h)
      × Four (before ++ old.segments_of (take n hls)) h (old.segments_of (drop (suc n) hls))

  to : (before : List Elements) (xs : List Use) → Contains (room.hl_faults rule d before xs) f → Among before (map seen xs)
  to before [] c = absurd (no_member f c)
  to before (x ∷ xs) c =
      let here : List Fault = first before x ++ second before x ++ third before x ++ fourth x (map (λ (l : Use). l.segment) xs) in
      elim (Contains-append_cases here (room.hl_faults rule d (before ++ x.segment ∷ []) xs) f c) [
        | inl e ↦ (
          0,
          seen x,
          refl,
          subst (λ b. Four b (seen x) (old.segments_of (map seen xs))) (sym (append-nil before))
              (subst (λ b. Four before (seen x) b) (sym (segments_are xs)) (four_from before x (map (λ (l : Use). l.segment) xs) e)),
        )
        | inr e ↦ let r = to (before ++ x.segment ∷ []) xs e in (
          suc r.0,
          r.1,
          r.2,
          subst (λ b. Four b r.1 (old.segments_of (drop (suc r.0) (map seen xs))))
              (append_assoc before (x.segment ∷ []) (old.segments_of (take r.0 (map seen xs)))) r.3,
        )
      ]

  from : (before : List Elements) (xs : List Use) (n : ℕ) (h : PlacedSegment) → slice_get (map seen xs) n ≡ Some h
      → Four (before ++ old.segments_of (take n (map seen xs))) h (old.segments_of (drop (suc n) (map seen xs)))
      → Contains (room.hl_faults rule d before xs) f
  from before [] n h there r = absurd (none-some h there)
  from before (x ∷ xs) zero h there r =
      Contains-append_left (first before x ++ second before x ++ third before x ++ fourth x (map (λ (l : Use). l.segment) xs))
      (room.hl_faults rule d (before ++ x.segment ∷ []) xs) f
      (four_to before x (map (λ (l : Use). l.segment) xs)
      (subst (λ b. Four before (seen x) b) (segments_are xs)
      (subst (λ b. Four b (seen x) (old.segments_of (map seen xs))) (append-nil before)
      (subst (λ h. Four (before ++ []) h (old.segments_of (map seen xs))) (sym (same_Some (seen x) h there)) r))))
  from before (x ∷ xs) (suc n) h there r =
      Contains-append_right (first before x ++ second before x ++ third before x ++ fourth x (map (λ (l : Use). l.segment) xs))
      (room.hl_faults rule d (before ++ x.segment ∷ []) xs) f
      (from (before ++ x.segment ∷ []) xs n h there
      (subst (λ b. Four b h (old.segments_of (drop (suc n) (map seen xs))))
      (sym (append_assoc before (x.segment ∷ []) (old.segments_of (take n (map seen xs))))) r))

pub hl_faults : HlFaultsAreOne
hl_faults rule d hls f = (forth, back)
  where
    on : (n : ℕ) → suc n ≡ n + 1
    on n = omega arith

    forth : Contains (room.hl_faults rule d [] hls) f → old.IsFaultAmong rule d (map seen hls) f
    forth c =
        let r = to rule d f [] hls c in
        record {
          count = r.0;
          hl = r.1;
          there = r.2;
          wrong = subst (λ n. Four rule d f (old.segments_of (take r.0 (map seen hls))) r.1 (old.segments_of (drop n (map seen hls))))
              (on r.0) r.3;
        }

    back : old.IsFaultAmong rule d (map seen hls) f → Contains (room.hl_faults rule d [] hls) f
    back r =
        from rule d f [] hls r.count r.hl r.there
        (subst (λ n. Four rule d f (old.segments_of (take r.count (map seen hls))) r.hl (old.segments_of (drop n (map seen hls))))
        (sym (on r.count)) r.wrong)
