-- What the walk finds in an element that has a row is what is wrong in it.
use Rattle.std.proofs.Common.{◌≡◌, ℕ, ◌+◌, ◌≤◌, ◌∙◌, List, [], ◌∷◌, false, length, refl, ap, sym, subst}
use Rattle.std.specs.Prelude.{Some, IsSomeAnd, if◌then◌else◌}
use mathlib.Core.Logic.{◌⊎◌, inl, inr}
use Rattle.std.specs.Option.{option_map_or}
use Rattle.std.specs.List.{Contains}
use Rattle.std.proofs.lemmas.List.Elements.{Contains-append_left, Contains-append_right, Contains-append_cases}
use Rattle.x12_bytes.specs.declared.delims.Delims.{Delims}
use Rattle.x12_segs.specs.Words.{occurrences, components}
use Rattle.guide_tree.specs.declared.element.Component.{Component}
use Rattle.guide_tree.specs.declared.element.Element.{Element}
use Rattle.guide_tree.specs.declared.element.Element.TheVariants as element
use Rattle.hub_kinds.specs.declared.codes.ElementCode.{ElementCode}
use Rattle.hub_kinds.specs.declared.codes.ElementCode.TheVariants as ik403
use Rattle.hub_kinds.specs.declared.fault.ElemFault.{ElemFault}
use Rattle.elem_rules.specs.Divided.{is_empty, has_more, occurrence_in, component_in}
use Rattle.elem_rules.specs.Rows.{Usage, use_of_element, simple_usage, composite_usage, nth, shown_component, shown_repetition}
use Rattle.elem_rules.specs.Rows.{element_reference}
use Rattle.elem_rules.specs.Rows.{component_reference, reference_in}
use Rattle.elem_rules.specs.ElementFaults.{Wrong, wrong_at, copy_in, component_fault, whole_fault, IsWrongWhole, IsTooOften, IsTooWide}
use Rattle.elem_rules.specs.ElementFaults.{IsWrongComponent, IsWrong}
use Rattle.elem_rules.specs.Found.{up_to, fault, copy_of, component_found, occurrence_found, occurrences_found, too_often_found}
use Rattle.elem_rules.specs.Found.{usage_found, whole_found, element_found}
use Rattle.elem_rules.proofs.Members.{no_member, contains_one, one_contains, from_if, in_then, in_else, from_up_to, in_up_to, from_option}
use Rattle.elem_rules.proofs.Members.{in_option, from_reported, in_reported, nth_within}
use Rattle.elem_rules.proofs.Shown.{Shows, simple_shows, composite_shows, whole_copy, shown_occurrence}

-- the fault of what is wrong in an element
abbrev pub shown : Delims → ℕ → Element → List ℕ → Wrong → ElemFault
shown delims k row text w = fault k w.component w.repetition w.code (reference_in row w.component)
    (copy_in delims text w.component w.repetition w.code)

-- two faults at one place with the same texts
same_texts : (k c r : ℕ) (code : ElementCode) (reference reference' copy copy' : List ℕ) → reference ≡ reference' → copy ≡ copy'
    → fault k c r code reference copy ≡ fault k c r code reference' copy'
same_texts k c r code reference reference' copy copy' e d = ap (λ t. fault k c r code t copy) e ∙ ap (λ t. fault k c r code reference' t) d

whole_shown : (delims : Delims) (k : ℕ) (row : Element) (text : List ℕ) (code : ElementCode) → reference_in row 0 ≡ element_reference row
    → whole_fault delims row text ≡ Some code
    → fault k 0 0 code (element_reference row) (copy_of code text) ≡ shown delims k row text (wrong_at 0 0 code)
whole_shown delims k row text code e is = same_texts k 0 0 code _ _ _ _ (sym e) (sym (whole_copy delims row text code is))

module _ (delims : Delims) (k : ℕ) (row : Element) (text : List ℕ) (usage : Usage) (shows : Shows row usage) where
  too_often_shown : fault k 0 (usage.repeat + 1) ik403.TooManyRepetitions usage.reference
      (occurrence_in delims text (usage.repeat + 1)) ≡ shown delims k row text (wrong_at 0 (usage.repeat + 1) ik403.TooManyRepetitions)
  too_often_shown = same_texts k 0 (usage.repeat + 1) ik403.TooManyRepetitions _ _ _ _ (sym shows.reference) refl

  too_wide_shown : (n : ℕ) → 1 ≤ n → n ≤ usage.repeat
      → fault k (length usage.components + 1) (shown_repetition usage n) ik403.TooManyComponents usage.reference
      (component_in delims (occurrence_in delims text n) (length usage.components + 1)) ≡ shown delims k row text
      (wrong_at (length usage.components + 1) (shown_repetition usage n) ik403.TooManyComponents)
  too_wide_shown n from to = same_texts k (length usage.components + 1) (shown_repetition usage n) ik403.TooManyComponents _ _ _ _
      (sym shows.past)
      (ap (λ o. component_in delims o (length usage.components + 1)) (sym (shown_occurrence usage n from to delims text)))

  component_shown : (n m : ℕ) (c : Component) (code : ElementCode) → 1 ≤ n → n ≤ usage.repeat → nth usage.components m ≡ Some c
      → component_fault delims c (component_in delims (occurrence_in delims text n) m) ≡ Some code
      → fault k (shown_component usage m) (shown_repetition usage n) code (component_reference c)
      (copy_of code (component_in delims (occurrence_in delims text n) m)) ≡ shown delims k row text
      (wrong_at (shown_component usage m) (shown_repetition usage n) code)
  component_shown n m c code from to there is =
      same_texts k (shown_component usage m) (shown_repetition usage n) code _ _ _ _ (sym (shows.within m c there))
      (ap (λ o. copy_of code (component_in delims o m)) (sym (shown_occurrence usage n from to delims text))
      ∙ sym (shows.copies m c there delims (component_in delims (occurrence_in delims text n) m) code is text (shown_repetition usage n)))

  abbrev pub IsWrongUse : Wrong → Type 0
  IsWrongUse w = IsTooOften delims usage text w ⊎ (IsTooWide delims usage text w ⊎ IsWrongComponent delims usage text w)

  -- the components of one occurrence, as the walk finds them
  abbrev one_component : ℕ → ℕ → List ElemFault
  one_component n m = option_map_or
      (λ c. component_found delims k (shown_repetition usage n) (if usage.is_composite then m else 0) c
      (component_in delims (occurrence_in delims text n) m))
      (nth usage.components m) []

  abbrev one_occurrence : ℕ → List ElemFault
  one_occurrence n = occurrence_found delims k (shown_repetition usage n) usage.reference usage.is_composite usage.components
      (occurrence_in delims text n)

  component_from : (n : ℕ) (f : ElemFault) → 1 ≤ n → n ≤ usage.repeat
      → has_more delims (length usage.components) (components delims (occurrence_in delims text n)) ≡ false
      → is_empty delims (occurrence_in delims text n) ≡ false → Contains (up_to (one_component n) (length usage.components)) f
      → (w : Wrong) × IsWrongUse w × (f ≡ shown delims k row text w)
  component_from n f from to few filled h =
      let a = from_up_to (one_component n) (length usage.components) f h in
      let m = a.0 in
      let b = from_option (λ c. component_found delims k (shown_repetition usage n) (if usage.is_composite then m else 0) c
      (component_in delims (occurrence_in delims text n) m)) (nth usage.components m) f a.3 in
      let d = from_reported k (shown_component usage m) (shown_repetition usage n) (component_reference b.0)
      (component_in delims (occurrence_in delims text n) m)
      (component_fault delims b.0 (component_in delims (occurrence_in delims text n) m)) f b.2 in (
        wrong_at (shown_component usage m) (shown_repetition usage n) d.0,
        inr (inr (record {
          n = n;
          from = from;
          to = to;
          filled = filled;
          few = few;
          m = m;
          row = b.0;
          there = b.1;
          code = d.0;
          fault =
              d.1;
          is = refl;
        })),
        d.2 ∙ component_shown n m b.0 d.0 from to b.1 d.1,
      )

  occurrence_from : (n : ℕ) (f : ElemFault) → 1 ≤ n → n ≤ usage.repeat → Contains (one_occurrence n) f
      → (w : Wrong) × IsWrongUse w × (f ≡ shown delims k row text w)
  occurrence_from n f from to h =
      elim (from_if (has_more delims (length usage.components) (components delims (occurrence_in delims text n))) _ _ f h) [
        | inl p ↦ (
          wrong_at (length usage.components + 1) (shown_repetition usage n) ik403.TooManyComponents,
          inr (inl (record { n = n; from = from; to = to; more = p.0; is = refl })),
          contains_one _ f p.1 ∙ too_wide_shown n from to,
        )
        | inr p ↦ elim (from_if (is_empty delims (occurrence_in delims text n)) _ _ f p.1) [
          | inl q ↦ absurd (no_member f q.1)
          | inr q ↦ component_from n f from to p.0 q.0 q.1
        ]
      ]

  pub usage_from : (f : ElemFault) → Contains (usage_found delims k text usage) f
      → (w : Wrong) × IsWrongUse w × (f ≡ shown delims k row text w)
  usage_from f h =
      elim (Contains-append_cases (too_often_found delims k usage.repeat usage.reference text)
      (occurrences_found delims k usage text) f h) [
        | inl e ↦ elim (from_if (has_more delims usage.repeat (occurrences delims text)) _ _ f e) [
          | inl p ↦ (
            wrong_at 0 (usage.repeat + 1) ik403.TooManyRepetitions,
            inl (record { more = p.0; is = refl }),
            contains_one _ f p.1
                ∙ too_often_shown,
          )
          | inr p ↦ absurd (no_member f p.1)
        ]
        | inr e ↦ let a = from_up_to one_occurrence usage.repeat f e in occurrence_from a.0 f a.1 a.2 a.3
      ]

  often_to : (w : Wrong) → IsTooOften delims usage text w → Contains (usage_found delims k text usage) (shown delims k row text w)
  often_to w h = subst (λ w. Contains (usage_found delims k text usage) (shown delims k row text w)) (sym h.is)
      (Contains-append_left (too_often_found delims k usage.repeat usage.reference text) (occurrences_found delims k usage text) _
      (in_then (has_more delims usage.repeat (occurrences delims text)) _ _ _ h.more
      (subst (λ f. Contains (fault k 0 (usage.repeat + 1) ik403.TooManyRepetitions usage.reference
      (occurrence_in delims text (usage.repeat + 1)) ∷ []) f) too_often_shown (one_contains _))))

  occurrence_to : (n : ℕ) (f : ElemFault) → 1 ≤ n → n ≤ usage.repeat → Contains (one_occurrence n) f
      → Contains (usage_found delims k text usage) f
  occurrence_to n f from to h = Contains-append_right (too_often_found delims k usage.repeat usage.reference text)
      (occurrences_found delims k usage text) f (in_up_to one_occurrence usage.repeat n f from to h)

  wide_to : (w : Wrong) → IsTooWide delims usage text w → Contains (usage_found delims k text usage) (shown delims k row text w)
  wide_to w h = subst (λ w. Contains (usage_found delims k text usage) (shown delims k row text w)) (sym h.is)
      (occurrence_to h.n _ h.from h.to
      (in_then (has_more delims (length usage.components) (components delims (occurrence_in delims text h.n))) _ _ _ h.more
      (subst (λ f. Contains (fault k (length usage.components + 1) (shown_repetition usage h.n) ik403.TooManyComponents usage.reference
      (component_in delims (occurrence_in delims text h.n) (length usage.components + 1)) ∷ []) f) (too_wide_shown h.n h.from h.to)
      (one_contains _))))

  component_to : (w : Wrong) → IsWrongComponent delims usage text w → Contains (usage_found delims k text usage) (shown delims k row text w)
  component_to w h =
      let n = h.n in
      let m = h.m in
      let t = component_in delims (occurrence_in delims text n) m in
      let within = nth_within usage.components m h.row h.there in
      let one = in_reported k (shown_component usage m) (shown_repetition usage n) (component_reference h.row) t
      (component_fault delims h.row t) h.code h.fault in
      let moved = subst (λ f. Contains (component_found delims k (shown_repetition usage n) (shown_component usage m) h.row t) f)
      (component_shown n m h.row h.code h.from h.to h.there h.fault) one in
      let at = in_option (λ c. component_found delims k (shown_repetition usage n) (if usage.is_composite then m else 0) c t)
      (nth usage.components m) h.row _ h.there moved in
      subst (λ w. Contains (usage_found delims k text usage) (shown delims k row text w)) (sym h.is)
      (occurrence_to n _ h.from h.to
      (in_else (has_more delims (length usage.components) (components delims (occurrence_in delims text n))) _ _ _ h.few
      (in_else (is_empty delims (occurrence_in delims text n)) _ _ _ h.filled
      (in_up_to (one_component n) (length usage.components) m _ within.0 within.1 at))))

  pub usage_to : (w : Wrong) → IsWrongUse w → Contains (usage_found delims k text usage) (shown delims k row text w)
  usage_to w h = elim h [ inl a ↦ often_to w a | inr r ↦ elim r [ inl a ↦ wide_to w a | inr a ↦ component_to w a ] ]

whole_from : (delims : Delims) (k : ℕ) (row : Element) (text : List ℕ) (f : ElemFault) → Contains (whole_found delims k row text) f
    → (w : Wrong) × IsWrongWhole delims row text w × (f ≡ shown delims k row text w)
whole_from delims k row text f h =
    let a = from_reported k 0 0 (element_reference row) text (whole_fault delims row text) f h in
    (wrong_at 0 0 a.0, record { code = a.0; fault = a.1; is = refl }, a.2 ∙ whole_shown delims k row text a.0 refl a.1)

whole_to : (delims : Delims) (k : ℕ) (row : Element) (text : List ℕ) (w : Wrong) → IsWrongWhole delims row text w
    → Contains (whole_found delims k row text) (shown delims k row text w)
whole_to delims k row text w h =
    subst (λ w. Contains (whole_found delims k row text) (shown delims k row text w)) (sym h.is)
    (subst (λ f. Contains (whole_found delims k row text) f) (whole_shown delims k row text h.code refl h.fault)
    (in_reported k 0 0 (element_reference row) text (whole_fault delims row text) h.code h.fault))

use_from : (delims : Delims) (k : ℕ) (row : Element) (text : List ℕ) (f : ElemFault)
    → Contains (option_map_or (usage_found delims k text) (use_of_element row) []) f
    → (w : Wrong) × IsWrong delims row text w × (f ≡ shown delims k row text w)
use_from delims k (element.NotUsed reference) text f h = absurd (no_member f h)
use_from delims k (element.Simple row repeat) text f h = let a =
    usage_from delims k (element.Simple row repeat) text (simple_usage row repeat) (simple_shows row repeat) f h in (a.0, inr a.1, a.2)
use_from delims k (element.Composite row) text f h = let a =
    usage_from delims k (element.Composite row) text (composite_usage row) (composite_shows row) f h in (a.0, inr a.1, a.2)

use_to : (delims : Delims) (k : ℕ) (row : Element) (text : List ℕ) (w : Wrong)
    → IsSomeAnd (use_of_element row) (λ usage. IsTooOften delims usage text w
    ⊎ (IsTooWide delims usage text w ⊎ IsWrongComponent delims usage text w))
    → Contains (option_map_or (usage_found delims k text) (use_of_element row) []) (shown delims k row text w)
use_to delims k (element.NotUsed reference) text w h = absurd h
use_to delims k (element.Simple row repeat) text w h =
    usage_to delims k (element.Simple row repeat) text (simple_usage row repeat) (simple_shows row repeat) w h
use_to delims k (element.Composite row) text w h =
    usage_to delims k (element.Composite row) text (composite_usage row) (composite_shows row) w h

pub element_from : (delims : Delims) (k : ℕ) (row : Element) (text : List ℕ) (f : ElemFault) → Contains (element_found delims k row text) f
    → (w : Wrong) × IsWrong delims row text w × (f ≡ shown delims k row text w)
element_from delims k row text f h =
    elim (Contains-append_cases (whole_found delims k row text) (option_map_or (usage_found delims k text) (use_of_element row) []) f h) [
      | inl e ↦ let a = whole_from delims k row text f e in (a.0, inl a.1, a.2)
      | inr e ↦ use_from delims k row text f e
    ]

pub element_to : (delims : Delims) (k : ℕ) (row : Element) (text : List ℕ) (w : Wrong) → IsWrong delims row text w
    → Contains (element_found delims k row text) (shown delims k row text w)
element_to delims k row text w h = elim h [
  | inl a ↦ Contains-append_left (whole_found delims k row text) (option_map_or (usage_found delims k text) (use_of_element row) []) _
      (whole_to delims k row text w a)
  | inr a ↦ Contains-append_right (whole_found delims k row text) (option_map_or (usage_found delims k text) (use_of_element row) []) _
      (use_to delims k row text w a)
]
