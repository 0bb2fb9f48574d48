-- What is shown of a fault at its place is what the walk has at hand there: the row's number and the text.
use Rattle.std.proofs.Common.{◌≡◌, ℕ, zero, suc, ◌+◌, ◌-◌, ◌≤◌, ◌∙◌, List, [], ◌∷◌, Bool, true, false, length, get_or, refl, ap, sym, subst}
use Rattle.std.proofs.Common.{arith}
use Rattle.std.specs.Prelude.{Option, Some, None, IfSome, if◌then◌else◌, ◌==◌, nat_lt, not}
use Rattle.std.specs.Option.{option_map_or, option_or}
use Rattle.std.proofs.lemmas.Bool.Decides.{nat_tests}
use Rattle.std.proofs.lemmas.Option.{none-some, same_Some}
use Rattle.x12_bytes.specs.declared.delims.Delims.{Delims}
use Rattle.x12_segs.specs.Words.{occurrences}
use Rattle.guide_tree.specs.declared.element.ElementType.{ElementType}
use Rattle.guide_tree.specs.declared.element.ElementType.TheVariants as kind
use Rattle.guide_tree.specs.declared.element.Requirement.{Requirement}
use Rattle.guide_tree.specs.declared.element.Requirement.TheVariants.{Mandatory, Optional}
use Rattle.guide_tree.specs.declared.element.CodeList.{CodeList}
use Rattle.guide_tree.specs.declared.element.SimpleRow.{SimpleRow}
use Rattle.guide_tree.specs.declared.element.CompositeRow.{CompositeRow}
use Rattle.guide_tree.specs.declared.element.Component.{Component}
use Rattle.guide_tree.specs.declared.element.Component.TheVariants as component
use Rattle.guide_tree.specs.declared.element.Element.{Element}
use Rattle.guide_tree.specs.declared.element.Element.TheVariants as element
use Rattle.hub_kinds.specs.declared.codes.ElementCode.{ElementCode}
use Rattle.hub_kinds.specs.declared.codes.ElementCode.TheVariants as ik403
use Rattle.hub_kinds.specs.Words.{contains_text}
use Rattle.elem_rules.specs.Divided.{is_empty, occurrence_in, component_in}
use Rattle.elem_rules.specs.Values.{is_form, value_length, code_fault, calendar_fault, value_fault}
use Rattle.moment.specs.Calendar.{is_date, is_time}
use Rattle.elem_rules.specs.Rows.{Usage, simple_usage, composite_usage, nth, shown_component, shown_repetition, component_reference}
use Rattle.elem_rules.specs.Rows.{reference_in}
use Rattle.elem_rules.specs.ElementFaults.{copy_in, missing_fault, component_fault, whole_fault}
use Rattle.elem_rules.specs.Found.{copy_of}
use Rattle.elem_rules.proofs.Members.{nth_within, nth_past}

some_if : {X : Type 0} (P : X → Type 0) (b : Bool) (x y : Option X) → IfSome x P → IfSome y P → IfSome (if b then x else y) P
some_if P true x y p q = p
some_if P false x y p q = q

some_or : {X : Type 0} (P : X → Type 0) (x y : Option X) → IfSome x P → IfSome y P → IfSome (option_or x y) P
some_or P None y p q = q
some_or P (Some x) y p q = p

-- a code that copies the component it speaks of
abbrev CopiesComponent : ElementCode → Type 0
CopiesComponent code = (delims : Delims) (text : List ℕ) (c r : ℕ)
    → copy_in delims text c r code ≡ copy_of code (component_in delims (occurrence_in delims text r) c)

code_copies : (listed : Option CodeList) (text : List ℕ) → IfSome (code_fault listed text) CopiesComponent
code_copies None text = tt
code_copies (Some listed) text = some_if CopiesComponent (contains_text listed.used text) None _ tt
    (some_if CopiesComponent _ (Some ik403.CodeNotUsed) (Some ik403.InvalidCode) (λ d t c r. refl) (λ d t c r. refl))

calendar_copies : (data_type : ElementType) (text : List ℕ) → IfSome (calendar_fault data_type text) CopiesComponent
calendar_copies kind.Text text = tt
calendar_copies kind.Identifier text = tt
calendar_copies (kind.Number places) text = tt
calendar_copies kind.Decimal text = tt
calendar_copies kind.Date text = some_if CopiesComponent (is_date text) None (Some ik403.InvalidDate) tt (λ d t c r. refl)
calendar_copies kind.Time text = some_if CopiesComponent (is_time text) None (Some ik403.InvalidTime) tt (λ d t c r. refl)

value_copies : (row : SimpleRow) (text : List ℕ) → IfSome (value_fault row text) CopiesComponent
value_copies row text =
    some_if CopiesComponent (not (is_form row.data_type row.wide text)) (Some ik403.InvalidCharacter) _ (λ d t c r. refl)
    (some_if CopiesComponent (nat_lt (value_length row.data_type text) row.min) (Some ik403.TooShort) _ (λ d t c r. refl)
    (some_if CopiesComponent (nat_lt row.max (value_length row.data_type text)) (Some ik403.TooLong) _ (λ d t c r. refl)
    (some_or CopiesComponent (code_fault row.codes text) (calendar_fault row.data_type text) (code_copies row.codes text)
    (calendar_copies row.data_type text))))

missing_copies : (requirement : Requirement) → IfSome (missing_fault requirement) CopiesComponent
missing_copies Mandatory = λ d t c r. refl
missing_copies Optional = tt

simple_copies : (delims : Delims) (row : SimpleRow) (text : List ℕ)
    → IfSome (component_fault delims (component.Simple row) text) CopiesComponent
simple_copies delims row text = some_if CopiesComponent (is_empty delims text) (missing_fault row.requirement) (value_fault row text)
    (missing_copies row.requirement) (value_copies row text)

-- what is copied of a whole element
abbrev CopiesWhole : Delims → List ℕ → ElementCode → Type 0
CopiesWhole delims text code = copy_in delims text 0 0 code ≡ copy_of code text

missing_whole : (delims : Delims) (text : List ℕ) (requirement : Requirement) → IfSome (missing_fault requirement) (CopiesWhole delims text)
missing_whole delims text Mandatory = refl
missing_whole delims text Optional = tt

whole_copies : (delims : Delims) (row : Element) (text : List ℕ) → IfSome (whole_fault delims row text) (CopiesWhole delims text)
whole_copies delims (element.NotUsed reference) text =
    some_if (CopiesWhole delims text) (is_empty delims text) None (Some ik403.NotUsedPresent) tt refl
whole_copies delims (element.Simple row repeat) text =
    some_if (CopiesWhole delims text) (is_empty delims text) (missing_fault row.requirement) None
    (missing_whole delims text row.requirement) tt
whole_copies delims (element.Composite row) text =
    some_if (CopiesWhole delims text) (is_empty delims text) (missing_fault row.requirement) None
    (missing_whole delims text row.requirement) tt

pub whole_copy : (delims : Delims) (row : Element) (text : List ℕ) (code : ElementCode) → whole_fault delims row text ≡ Some code
    → copy_in delims text 0 0 code ≡ copy_of code text
whole_copy delims row text code is = subst (λ o. IfSome o (CopiesWhole delims text)) is (whole_copies delims row text)

-- what a row shows, by what is said of its use
pub record Shows (row : Element) (usage : Usage) : Type 0 where
  pub reference : reference_in row 0 ≡ usage.reference
  pub past : reference_in row (length usage.components + 1) ≡ usage.reference
  pub within : (m : ℕ) (c : Component) → nth usage.components m ≡ Some c
      → reference_in row (shown_component usage m) ≡ component_reference c
  pub copies : (m : ℕ) (c : Component) → nth usage.components m ≡ Some c → (delims : Delims) (text : List ℕ) (code : ElementCode)
      → component_fault delims c text ≡ Some code → (whole : List ℕ) (r : ℕ)
      → copy_in delims whole (shown_component usage m) r code ≡ copy_of code (component_in delims (occurrence_in delims whole r) m)

only_one : {X : Type 0} (x : X) (m : ℕ) (c : X) → nth (x ∷ []) m ≡ Some c → (m ≡ 1) × (x ≡ c)
only_one x zero c h = absurd (none-some c h)
only_one x (suc zero) c h = (refl, same_Some x c h)
only_one x (suc (suc m)) c h = absurd (none-some c h)

simple_copy : (delims : Delims) (row : SimpleRow) (text : List ℕ) (code : ElementCode)
    → component_fault delims (component.Simple row) text ≡ Some code → CopiesComponent code
simple_copy delims row text code is = subst (λ o. IfSome o CopiesComponent) is (simple_copies delims row text)

pub simple_shows : (row : SimpleRow) (repeat : ℕ) → Shows (element.Simple row repeat) (simple_usage row repeat)
simple_shows row repeat = record {
  reference = refl;
  past = refl;
  within = λ m c h. let e = only_one (component.Simple row) m c h in ap component_reference e.1;
  copies = λ m c h delims text code is whole r.
      let e = only_one (component.Simple row) m c h in
      let k = subst (λ c. component_fault delims c text ≡ Some code) (sym e.1) is in
      simple_copy delims row text code k delims whole 0 r
      ∙ ap (λ m. copy_of code (component_in delims (occurrence_in delims whole r) m)) (sym e.0);
}

not_used_code : (b : Bool) (code : ElementCode) → (if b then None else Some ik403.NotUsedPresent) ≡ Some code → ik403.NotUsedPresent ≡ code
not_used_code true code h = absurd (none-some code h)
not_used_code false code h = same_Some _ code h

composite_copies : (m : ℕ) (c : Component) → 1 ≤ m → (delims : Delims) (text : List ℕ) (code : ElementCode)
    → component_fault delims c text ≡ Some code → (whole : List ℕ) (r : ℕ)
    → copy_in delims whole m r code ≡ copy_of code (component_in delims (occurrence_in delims whole r) m)
composite_copies m (component.NotUsed reference) from delims text code is whole r =
    let e = not_used_code (is_empty delims text) code is in
    let positive : (m == 0) ≡ false = grind (arith, nat_tests) in
    subst (λ code. copy_in delims whole m r code ≡ copy_of code (component_in delims (occurrence_in delims whole r) m)) e
    (ap (λ b. if b then whole else component_in delims (occurrence_in delims whole r) m) positive)
composite_copies m (component.Simple row) from delims text code is whole r = simple_copy delims row text code is delims whole m r

pub composite_shows : (row : CompositeRow) → Shows (element.Composite row) (composite_usage row)
composite_shows row = record {
  reference = refl;
  past = ap (λ o. option_map_or component_reference o row.reference) (nth_past row.components);
  within = λ m c h. ap (λ o. option_map_or component_reference o row.reference) h;
  copies = λ m c h delims text code is whole r. composite_copies m c (nth_within row.components m c h).0 delims text code is whole r;
}

shown_index : (repeat n : ℕ) → 1 ≤ n → n ≤ repeat → (if nat_lt 1 repeat then n else 0) - 1 ≡ n - 1
shown_index repeat n from to = grind (arith, nat_tests)

-- a repetition that isn't shown is the only one
pub shown_occurrence : (usage : Usage) (n : ℕ) → 1 ≤ n → n ≤ usage.repeat → (delims : Delims) (text : List ℕ)
    → occurrence_in delims text (shown_repetition usage n) ≡ occurrence_in delims text n
shown_occurrence usage n from to delims text = ap (λ i. get_or (occurrences delims text) i []) (shown_index usage.repeat n from to)
