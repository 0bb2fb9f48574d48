-- An element in which nothing is wrong by an old row has nothing wrong by a wider one.
use Rattle.std.proofs.Common.{◌≡◌, ℕ, zero, suc, ◌+◌, ◌-◌, ◌≤◌, ◌<◌, ◌⊎◌, inl, inr, List, [], ◌∷◌, Bool, true, false, length}
use Rattle.std.proofs.Common.{refl, sym, ap, ◌∙◌, subst, arith, Option, Some, None}
use Rattle.std.specs.Prelude.{◌&&◌, slice_get, if◌then◌else◌, nat_le, IsTrue}
use Rattle.std.proofs.lemmas.Bool.{and_parts, and_from, leb-true, true≢false, cases_lt}
use Rattle.x12_bytes.specs.declared.delims.Delims.{Delims}
use Rattle.x12_segs.specs.Words.{occurrences, components}
use Rattle.hub_kinds.specs.declared.codes.ElementCode.{ElementCode}
use Rattle.hub_kinds.specs.declared.codes.ElementCode.TheVariants as ik403
use Rattle.guide_tree.specs.declared.element.Requirement.{Requirement}
use Rattle.guide_tree.specs.declared.element.Requirement.TheVariants.{Mandatory, Optional}
use Rattle.guide_tree.specs.declared.element.SimpleRow.{SimpleRow}
use Rattle.guide_tree.specs.declared.element.CompositeRow.{CompositeRow}
use Rattle.guide_tree.specs.declared.element.Component.{Component}
use Rattle.guide_tree.specs.declared.element.Component.TheVariants as component
use Rattle.guide_tree.specs.declared.element.Element.{Element}
use Rattle.guide_tree.specs.declared.element.Element.TheVariants as element
use Rattle.elem_rules.specs.Divided.{is_empty, has_more, occurrence_in, component_in}
use Rattle.elem_rules.specs.Rows.{Usage, simple_usage, composite_usage, use_of_element, nth, shown_repetition, shown_component}
use Rattle.elem_rules.specs.Values.{value_fault}
use Rattle.elem_rules.specs.ElementFaults.{missing_fault, component_fault, whole_fault, Wrong, wrong_at, IsWrong, IsWrongWhole}
use Rattle.elem_rules.specs.ElementFaults.{IsTooOften, IsTooWide, IsWrongComponent}
use Rattle.guide_widening.specs.Rows.{are_wider_components, fits_empty, is_optional, is_wider_component, is_wider_requirement, is_wider_row}
use Rattle.guide_widening.specs.Rows.{fits_no_component, is_wider_element}
use Rattle.widening_law.proofs.Empties.{empty_components, empty_occurrence, empty_component, empty_occurrences, none_more}
use Rattle.widening_law.proofs.Empties.{past_empty, fewer_none}
use Rattle.widening_law.proofs.Rows.{Held, component_held, components_more}
use Rattle.widening_law.proofs.Values.{value_free}

pub missing_free : (old new : Requirement) → is_wider_requirement old new ≡ true → missing_fault old ≡ None → missing_fault new ≡ None
missing_free Mandatory new h f = cc
missing_free Optional Mandatory h f = cc
missing_free Optional Optional h f = refl

pub optional_free : (requirement : Requirement) → is_optional requirement ≡ true → missing_fault requirement ≡ None
optional_free Mandatory h = cc
optional_free Optional h = refl

-- where a test is asked, either answer
pub if_free : (b : Bool) (x y v w : Option ElementCode) → (x ≡ None → v ≡ None) → (y ≡ None → w ≡ None)
    → (if b then x else y) ≡ None → (if b then v else w) ≡ None
if_free true x y v w f g h = f h
if_free false x y v w f g h = g h

pub when_empty : (b : Bool) (x y : Option ElementCode) → b ≡ true → x ≡ None → (if b then x else y) ≡ None
when_empty true x y h e = e
when_empty false x y h e = cc

pub must_be_empty : (b : Bool) (c : ElementCode) → (if b then None else Some c) ≡ None → b ≡ true
must_be_empty true c h = refl
must_be_empty false c h = cc

pub row_needs : (old new : SimpleRow) → is_wider_row old new ≡ true → is_wider_requirement old.requirement new.requirement ≡ true
row_needs old new h = (and_parts _ _ (and_parts _ _ (and_parts _ _ (and_parts _ _ h).0).0).0).0

module _ (delims : Delims) where
  pub left_out : (row : Component) (text : List ℕ) → fits_no_component row ≡ true → is_empty delims text ≡ true
      → component_fault delims row text ≡ None
  left_out (component.NotUsed reference) text h e = when_empty (is_empty delims text) None (Some ik403.NotUsedPresent) e refl
  left_out (component.Simple row) text h e =
      when_empty (is_empty delims text) (missing_fault row.requirement) (value_fault row text) e (optional_free row.requirement h)

  pub component_free : (old new : Component) (text : List ℕ) → is_wider_component old new ≡ true
      → component_fault delims old text ≡ None → component_fault delims new text ≡ None
  component_free (component.NotUsed reference) new text h f =
      left_out new text h (must_be_empty (is_empty delims text) ik403.NotUsedPresent f)
  component_free (component.Simple old) (component.NotUsed reference) text h f = cc
  component_free (component.Simple old) (component.Simple new) text h f =
      if_free (is_empty delims text) (missing_fault old.requirement) (value_fault old text) (missing_fault new.requirement)
      (value_fault new text) (missing_free old.requirement new.requirement (row_needs old new h)) (value_free old new text h) f

  -- nothing is wrong with the occurrences of an element, nor with their components
  pub record IsRight (usage : Usage) (text : List ℕ) : Type 0 where
    pub few : has_more delims usage.repeat (occurrences delims text) ≡ false
    pub narrow : (n : ℕ) → 1 ≤ n → n ≤ usage.repeat
        → has_more delims (length usage.components) (components delims (occurrence_in delims text n)) ≡ false
    pub parts : (n m : ℕ) (row : Component) → 1 ≤ n → n ≤ usage.repeat → is_empty delims (occurrence_in delims text n) ≡ false
        → slice_get usage.components m ≡ Some row
        → component_fault delims row (component_in delims (occurrence_in delims text n) (suc m)) ≡ None

  abbrev IsUsedWrong : Usage → List ℕ → Wrong → Type 0
  IsUsedWrong usage text w = IsTooOften delims usage text w ⊎ (IsTooWide delims usage text w ⊎ IsWrongComponent delims usage text w)

  pub none_or_some : (o : Option ElementCode) → ((code : ElementCode) → o ≡ Some code → ⊥) → o ≡ None
  none_or_some None h = refl
  none_or_some (Some code) h = absurd (h code refl)

  pub false_or_true : (b : Bool) → (b ≡ true → ⊥) → b ≡ false
  false_or_true true h = absurd (h refl)
  false_or_true false h = refl

  pub right_from : (usage : Usage) (text : List ℕ) → ((w : Wrong) → IsUsedWrong usage text w → ⊥) → IsRight usage text
  right_from usage text none =
      let narrow : (n : ℕ) → 1 ≤ n → n ≤ usage.repeat
      → has_more delims (length usage.components) (components delims (occurrence_in delims text n)) ≡ false =
      (λ n from to. false_or_true _ (λ more. none _ (inr (inl (record { n = n; from = from; to = to; more = more; is = refl }))))) in
      record {
        few = false_or_true _ (λ more. none _ (inl (record { more = more; is = refl })));
        narrow = narrow;
        parts = λ n m row from to filled there. none_or_some _ (λ code fault. none _ (inr (inr (record {
          n = n;
          from = from;
          to = to;
          filled = filled;
          few = narrow n from to;
          m = suc m;
          row = row;
          there = there;
          code = code;
          fault = fault;
          is = refl;
        }))));
      }

  pub right_to : (usage : Usage) (text : List ℕ) → IsRight usage text → (w : Wrong) → IsUsedWrong usage text w → ⊥
  right_to usage text r w (inl o) = let a : has_more delims usage.repeat (occurrences delims text) ≡ true = o.more in let b = r.few in cc
  right_to usage text r w (inr (inl o)) =
      let a : has_more delims (length usage.components) (components delims (occurrence_in delims text o.n)) ≡ true = o.more in
      let b = r.narrow o.n o.from o.to in
      cc
  right_to usage text r w (inr (inr o)) = by o.m o.there o.fault
    where
      by : (m : ℕ) → nth usage.components m ≡ Some o.row
          → component_fault delims o.row (component_in delims (occurrence_in delims text o.n) m) ≡ Some o.code → ⊥
      by zero there fault = let n : None ≡ Some o.row = there in cc
      by (suc m) there fault = let none = r.parts o.n m o.row o.from o.to o.filled there in cc
