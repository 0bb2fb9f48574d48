-- A mandatory element whose type or lengths allow none of its codes is at fault, whatever it holds.
use Rattle.std.proofs.Common.{◌≡◌, ◌<◌, ◌≤◌, ◌+◌, ◌-◌, ◌∙◌, inl, inr, ℕ, Bool, true, false, not, ◌&&◌, List, [], ◌∷◌, Option, Some, None}
use Rattle.std.proofs.Common.{arith, refl, subst, sym}
use Rattle.std.specs.Prelude.{nat_lt, if◌then◌else◌}
use Rattle.std.specs.List.{list_all}
use Rattle.std.specs.Option.{option_map_or, option_or}
use Rattle.std.specs.Str.{bytes_eq}
use Rattle.std.proofs.lemmas.Bool.{and_parts}
use Rattle.std.proofs.lemmas.Slice.Eq.{bytes_eq-Decides}
use Rattle.hub_kinds.specs.declared.codes.ElementCode.{ElementCode}
use Rattle.hub_kinds.specs.declared.codes.ElementCode.TheVariants as ik403
use Rattle.x12_bytes.specs.declared.delims.Delims.{Delims}
use Rattle.x12_segs.specs.Words.{components, occurrences, part_or_empty}
use Rattle.guide_tree.proofs.ForAbove.{all_at, any_found}
use Rattle.guide_tree.specs.declared.element.CodeList.{CodeList}
use Rattle.guide_tree.specs.declared.element.Component.TheVariants as component
use Rattle.guide_tree.specs.declared.element.Element.TheVariants as element
use Rattle.guide_tree.specs.declared.element.Requirement.{Requirement}
use Rattle.guide_tree.specs.declared.element.Requirement.TheVariants.{Mandatory, Optional}
use Rattle.guide_tree.specs.declared.element.SimpleRow.{SimpleRow}
use Rattle.elem_rules.specs.Divided.{component_in, has_more, is_empty, is_filled, occurrence_in}
use Rattle.elem_rules.specs.ElementFaults.{IsWrong, Wrong, missing_fault, wrong_at}
use Rattle.elem_rules.specs.Rows.{shown_repetition, simple_usage}
use Rattle.elem_rules.specs.Values.{value_fault}
use Rattle.night_definition.specs.Guides.{is_among}
use Rattle.night_definition.specs.Values as room
use Rattle.night_equal_set.specs.Values.{ValuesAreOne}
use Rattle.guide_warnings.specs.Unmet.{is_mandatory, is_unmet_row, may_none_stand, may_stand}
use Rattle.unmet_law.proofs.Parts.{IsAt, filled_component, filled_occurrence, first_or_behind}

-- the fault of a value, by what is asked of it
abbrev fault_by : (form short long : Bool) (code calendar : Option ElementCode) → Option ElementCode
fault_by form short long code calendar =
    if not form then Some ik403.InvalidCharacter
    else (if short then Some ik403.TooShort else (if long then Some ik403.TooLong else option_or code calendar))

abbrev Faulty : Option ElementCode → Type 0
Faulty fault = (code : ElementCode) × (fault ≡ Some code)

by : (form short long : Bool) (code calendar : Option ElementCode)
    → (form ≡ true → short ≡ false → long ≡ false → code ≡ None → calendar ≡ None → ⊥) → Faulty (fault_by form short long code calendar)
by false short long code calendar never = (ik403.InvalidCharacter, refl)
by true true long code calendar never = (ik403.TooShort, refl)
by true false true code calendar never = (ik403.TooLong, refl)
by true false false (Some e) calendar never = (e, refl)
by true false false None (Some e) never = (e, refl)
by true false false None None never = absurd (never refl refl refl refl refl)

-- a value that isn't faulty is one of the codes
pushed : (used unused : Bool) → (if used then None else (if unused then Some ik403.CodeNotUsed else Some ik403.InvalidCode)) ≡ None
    → used ≡ true
pushed true unused none = refl
pushed false true none = cc
pushed false false none = cc

is_listed : (c : CodeList) (text : List ℕ) → room.code_fault c text ≡ None → is_among c.used text ≡ true
is_listed c text none =
    pushed (is_among c.used text) (option_map_or (λ unused. is_among unused text) c.unused false) none

may_be : (row : SimpleRow) (text : List ℕ) → room.is_form row.data_type row.wide text ≡ true
    → nat_lt (room.value_length row.data_type text) row.min ≡ false → nat_lt row.max (room.value_length row.data_type text) ≡ false
    → room.calendar_fault row.data_type text ≡ None → may_stand row text ≡ true
may_be row text form short long calendar = grind arith

-- none of the codes may be the value
same : (own text : List ℕ) → bytes_eq own text ≡ true → own ≡ text
same own text is = (bytes_eq-Decides own text).0 is

never : (row : SimpleRow) (c : CodeList) (text : List ℕ) → may_none_stand row c ≡ true → is_among c.used text ≡ true
    → may_stand row text ≡ true → ⊥
never row c text none listed may =
    let found = any_found (λ own. bytes_eq own text) c.used listed in
    let apart : not (may_stand row found.one) ≡ true = all_at (λ code. not (may_stand row code)) c.used found.one none found.among in
    let is : found.one ≡ text = same found.one text found.passes in
    let own : not (may_stand row text) ≡ true = subst (λ (t : List ℕ). not (may_stand row t) ≡ true) is apart in
    cc

value_by : (row : SimpleRow) (codes : Option CodeList) (text : List ℕ) → row.codes ≡ codes
    → option_map_or (may_none_stand row) codes false ≡ true → Faulty (room.value_fault row text)
value_by row None text own none = cc
value_by row (Some c) text own none =
    rw (own)
    (by (room.is_form row.data_type row.wide text) (nat_lt (room.value_length row.data_type text) row.min)
    (nat_lt row.max (room.value_length row.data_type text)) (room.code_fault c text) (room.calendar_fault row.data_type text)
    (λ form short long listed calendar. never row c text none (is_listed c text listed) (may_be row text form short long calendar)))

value : ValuesAreOne → (row : SimpleRow) (text : List ℕ) → is_unmet_row row ≡ true → Faulty (value_fault row text)
value one row text unmet =
    subst Faulty (one row text)
    (value_by row row.codes text refl
    (and_parts (is_mandatory row.requirement) (option_map_or (may_none_stand row) row.codes false) unmet).1)

missing_by : (r : Requirement) → is_mandatory r ≡ true → missing_fault r ≡ Some ik403.RequiredMissing
missing_by Mandatory is = refl
missing_by Optional is = cc

missing : (row : SimpleRow) → is_unmet_row row ≡ true → missing_fault row.requirement ≡ Some ik403.RequiredMissing
missing row unmet =
    missing_by row.requirement
    (and_parts (is_mandatory row.requirement) (option_map_or (may_none_stand row) row.codes false) unmet).0

abbrev AtFault : Delims → SimpleRow → (repeat : ℕ) → List ℕ → Type 0
AtFault delims row repeat text = (w : Wrong) × IsWrong delims (element.Simple row repeat) text w

empty_not : (b : Bool) → not b ≡ true → b ≡ false
empty_not true is = cc
empty_not false is = refl

is_filled_not : (delims : Delims) (text : List ℕ) → is_filled delims text ≡ true → is_empty delims text ≡ false
is_filled_not delims text filled = empty_not (is_empty delims text) filled

whole_by : (row : SimpleRow) (empty : Bool) → empty ≡ true → missing_fault row.requirement ≡ Some ik403.RequiredMissing
    → (if empty then missing_fault row.requirement else None) ≡ Some ik403.RequiredMissing
whole_by row true is missing = missing
whole_by row false is missing = cc

part_by : (row : SimpleRow) (text : List ℕ) (empty : Bool) (code : ElementCode) → empty ≡ false → value_fault row text ≡ Some code
    → (if empty then missing_fault row.requirement else value_fault row text) ≡ Some code
part_by row text false code is fault = fault
part_by row text true code is fault = cc

module _ (one : ValuesAreOne) (delims : Delims) (row : SimpleRow) (repeat : ℕ) (text : List ℕ) (unmet : is_unmet_row row ≡ true) where
  empty : is_empty delims text ≡ true → AtFault delims row repeat text
  empty is = (
    wrong_at 0 0 ik403.RequiredMissing,
    inl (record {
      code = ik403.RequiredMissing;
      fault = whole_by row (is_empty delims text) is (missing row unmet);
      is = refl;
    }),
  )

  too_often : has_more delims repeat (occurrences delims text) ≡ true → AtFault delims row repeat text
  too_often more = (
    wrong_at 0 (repeat + 1) ik403.TooManyRepetitions,
    inr (inl (record { more = more; is = refl })),
  )

  too_wide : (n : ℕ) → 1 ≤ n → n ≤ repeat → has_more delims 1 (components delims (occurrence_in delims text n)) ≡ true
      → AtFault delims row repeat text
  too_wide n from to more = (
    wrong_at 2 (shown_repetition (simple_usage row repeat) n) ik403.TooManyComponents,
    inr (inr (inl (record { n = n; from = from; to = to; more = more; is = refl }))),
  )

  component_wrong : (n : ℕ) → 1 ≤ n → n ≤ repeat → is_empty delims (occurrence_in delims text n) ≡ false
      → has_more delims 1 (components delims (occurrence_in delims text n)) ≡ false
      → is_empty delims (component_in delims (occurrence_in delims text n) 1) ≡ false → AtFault delims row repeat text
  component_wrong n from to filled few own =
      let part = component_in delims (occurrence_in delims text n) 1 in
      let fault = value one row part unmet in (
        wrong_at 0 (shown_repetition (simple_usage row repeat) n) fault.0,
        inr (inr (inr (record {
          n = n;
          from = from;
          to = to;
          filled = filled;
          few = few;
          m = 1;
          row = component.Simple row;
          there = refl;
          code = fault.0;
          fault = part_by row part (is_empty delims part) fault.0 own fault.1;
          is = refl;
        }))),
      )

  first_part : (n : ℕ) → IsAt (is_filled delims) 1 (components delims (occurrence_in delims text n))
      → is_empty delims (component_in delims (occurrence_in delims text n) 1) ≡ false
  first_part n at =
      let zero_is : at.k ≡ 0 = (let few = at.few in omega arith) in
      is_filled_not delims (part_or_empty (components delims (occurrence_in delims text n)) 0)
      (subst (λ (k : ℕ). is_filled delims (part_or_empty (components delims (occurrence_in delims text n)) k) ≡ true) zero_is at.passes)

  by_components : (n : ℕ) → 1 ≤ n → n ≤ repeat → is_empty delims (occurrence_in delims text n) ≡ false → (more : Bool)
      → has_more delims 1 (components delims (occurrence_in delims text n)) ≡ more → AtFault delims row repeat text
  by_components n from to filled true is = too_wide n from to is
  by_components n from to filled false is =
      elim (first_or_behind (is_filled delims) 1 (components delims (occurrence_in delims text n))
      (filled_component delims (occurrence_in delims text n) filled)) [
        | inl at ↦ component_wrong n from to filled is (first_part n at)
        | inr behind ↦ cc
      ]

  one_before : (k : ℕ) → (k + 1) - 1 ≡ k
  one_before k = omega arith

  by_occurrence : IsAt (is_filled delims) repeat (occurrences delims text) → AtFault delims row repeat text
  by_occurrence at =
      let n = at.k + 1 in
      let filled : is_empty delims (occurrence_in delims text n) ≡ false =
      is_filled_not delims (occurrence_in delims text n)
      (subst (λ (k : ℕ). is_filled delims (part_or_empty (occurrences delims text) k) ≡ true) (sym (one_before at.k)) at.passes) in
      by_components n (omega arith) (let few = at.few in omega arith) filled
      (has_more delims 1 (components delims (occurrence_in delims text n))) refl

  by_text : (b : Bool) → is_empty delims text ≡ b → AtFault delims row repeat text
  by_text true is = empty is
  by_text false is =
      elim (first_or_behind (is_filled delims) repeat (occurrences delims text) (filled_occurrence delims text is)) [
        | inl at ↦ by_occurrence at
        | inr behind ↦ too_often behind
      ]

  -- whatever the element holds
  pub at_fault : AtFault delims row repeat text
  at_fault = by_text (is_empty delims text) refl
