-- The text of a data element's row.
use Rattle.std.proofs.Common.{◌≡◌, ℕ, List, [], ◌∷◌, Option, Some, None, Bool, true, false, cond, map, option_map, option_and_then}
use Rattle.std.proofs.Common.{take, drop, codes, bytes_eq, refl, sym, ap, ◌∙◌, subst}
use Rattle.std.specs.List.{position_or_len, slice_split}
use Rattle.guide_tree.specs.declared.element.ElementType.{ElementType}
use Rattle.guide_tree.specs.declared.element.Requirement.{Requirement}
use Rattle.guide_tree.specs.declared.element.CodeList.{CodeList}
use Rattle.guide_tree.specs.declared.element.SimpleRow.{SimpleRow}
use Rattle.guide_tree.specs.declared.element.Component.{Component}
use Rattle.guide_tree.specs.declared.element.Component.TheVariants as part
use Rattle.guide_tree.specs.declared.element.Element.{Element}
use Rattle.guide_tree.specs.declared.element.Element.TheVariants as row
use Rattle.guide_toml.specs.Tokens.{is_semicolon, tokens_of}
use Rattle.guide_toml.specs.Counts.{count_of}
use Rattle.guide_toml.specs.declared.element_text.Measure.{Measure}
use Rattle.guide_toml.specs.ElementTexts.{Tokens, alone, behind_first, components_behind, components_of_tokens, composite_of, element_in}
use Rattle.guide_toml.specs.ElementTexts.{element_of_text, element_of_tokens, measure_of, row_of_tokens, used_component, used_element}
use Rattle.guide_toml.specs.ElementTexts.{component_of as old_component, simple_of as old_simple, no_more as old_no_more}
use Rattle.guide_toml.specs.ElementTexts as then
use Rattle.night_definition.specs.GuideFile.{all_of, head_or_none, code_list, component_of, count, element_of, element_text, no_more}
use Rattle.night_definition.specs.GuideFile.{requirement_of, row_of, simple_of, take_repeat, take_wide}
use Rattle.night_equal_guides.proofs.Steps.{none_behind, nothing, same_steps}
use Rattle.night_equal_guides.proofs.Tokens.{code_list_is, count_is, parts_are, parts_behind, reference_is, requirement_is}
use Rattle.night_equal_guides.proofs.Tokens.{take_repeat_is, take_wide_is, type_is, unused_is_no_use}

-- a reading that gives nothing whatever it goes on from
never : {A B : Type 0} (f : A → Option B) (o : Option A) → ((x : A) → f x ≡ None) → option_and_then f o ≡ None
never f o none = same_steps f nothing o none ∙ none_behind o

-- a use and what is read after it; N is no use
use_is : {A : Type 0} (usage : List ℕ) (f g : Requirement → Option A) → ((q : Requirement) → f q ≡ g q)
    → option_and_then f (requirement_of usage)
    ≡ cond (bytes_eq usage (codes "N")) None (option_and_then g (then.requirement_of usage))
use_is usage f g same = by (bytes_eq usage (codes "N")) refl
  where
    by : (b : Bool) → bytes_eq usage (codes "N") ≡ b
        → option_and_then f (requirement_of usage) ≡ cond b None (option_and_then g (then.requirement_of usage))
    by true e = ap (option_and_then f) (unused_is_no_use usage e)
    by false e = ap (option_and_then f) (requirement_is usage) ∙ same_steps f g (then.requirement_of usage) same

-- a row without its codes, and with them
abbrev with_codes : List ℕ → Requirement → Measure → Bool × Tokens → Option (Option CodeList) → Option SimpleRow
with_codes r q m w o = option_map (λ listed. record {
  reference = r;
  requirement = q;
  data_type = m.data_type;
  min = m.min;
  max = m.max;
  wide = w.0;
  codes = listed;
}) o

row_behind : (r : List ℕ) (q : Requirement) (m : Measure) (ts : Tokens)
    → with_codes r q m (take_wide ts) (code_list (take_wide ts).1) ≡ row_of_tokens r q m ts
row_behind r q m ts =
    ap (λ (w : Bool × Tokens). with_codes r q m w (code_list w.1)) (take_wide_is ts)
    ∙ ap (with_codes r q m (then.take_wide ts)) (code_list_is (then.take_wide ts).1)

-- type, minimum and maximum
abbrev measured : Option ElementType → Option ℕ → Option ℕ → Tokens → Option (Measure × Tokens)
measured t a b ts =
    option_and_then (λ type. option_and_then (λ least. option_and_then (λ most.
    Some (record { data_type = type; min = least; max = most }, ts)) b) a) t

abbrev row_by : List ℕ → Requirement → Option ElementType → Option ℕ → Option ℕ → Tokens → Option SimpleRow
row_by r q t a b ts =
    option_and_then (λ type. option_and_then (λ least. option_and_then (λ most.
    with_codes r q (record { data_type = type; min = least; max = most }) (take_wide ts) (code_list (take_wide ts).1)) b) a) t

row_by_is : (r : List ℕ) (q : Requirement) (type least most : List ℕ) (ts : Tokens)
    → row_of r q type least most ts ≡ row_by r q (then.type_of type) (count_of least) (count_of most) ts
row_by_is r q type least most ts =
    ap (λ t. row_by r q t (count least) (count most) ts) (type_is type)
    ∙ ap (λ a. row_by r q (then.type_of type) a (count most) ts) (count_is least)
    ∙ ap (λ b. row_by r q (then.type_of type) (count_of least) b ts) (count_is most)

-- what is made of a row, where it may see what stands after the measure
row_then : {A : Type 0} (r : List ℕ) (q : Requirement) (t : Option ElementType) (a b : Option ℕ) (ts : Tokens) (k : Tokens → Tokens)
    (h : SimpleRow → Tokens → A)
    → option_map (λ row. h row ts) (row_by r q t a b (k ts))
    ≡ option_and_then (λ (m : Measure × Tokens). option_and_then (λ row. Some (h row m.1)) (row_of_tokens r q m.0 (k m.1)))
    (measured t a b ts)
row_then r q None a b ts k h = refl
row_then r q (Some t) None b ts k h = refl
row_then r q (Some t) (Some a) None ts k h = refl
row_then r q (Some t) (Some a) (Some b) ts k h =
    ap (option_map (λ row. h row ts)) (row_behind r q (record { data_type = t; min = a; max = b }) (k ts))

-- components
used_row : (r : List ℕ) (q : Requirement) (type least most : List ℕ) (ts : Tokens)
    → option_map part.Simple (row_of r q type least most ts)
    ≡ option_and_then (λ (m : Measure × Tokens). option_and_then (λ row. Some (part.Simple row)) (row_of_tokens r q m.0 m.1))
    (measured (then.type_of type) (count_of least) (count_of most) ts)
used_row r q type least most ts =
    ap (option_map part.Simple) (row_by_is r q type least most ts)
    ∙ row_then r q (then.type_of type) (count_of least) (count_of most) ts (λ us. us) (λ row us. part.Simple row)

unused_by : {A : Type 0} (h : List ℕ → A) (o : Option (List ℕ)) (b : Bool) (other : List ℕ → Option A)
    → ((r : List ℕ) → other r ≡ None)
    → cond b (option_map h o) None ≡ option_and_then (λ r. cond b (Some (h r)) (other r)) o
unused_by h None true other none = refl
unused_by h None false other none = refl
unused_by h (Some r) true other none = refl
unused_by h (Some r) false other none = sym (none r)

either_none : {A : Type 0} (b : Bool) (o : Option A) → o ≡ None → cond b None o ≡ None
either_none true o e = refl
either_none false o e = e

one_word : (type : List ℕ) → measure_of (type ∷ []) ≡ None
unfolding measure_of
one_word type = never _ (then.type_of type) (λ t. refl)

two_words : (type least : List ℕ) → measure_of (type ∷ least ∷ []) ≡ None
unfolding measure_of
two_words type least = never _ (then.type_of type) (λ t. never _ (count_of least) (λ a. refl))

component_is : (ts : Tokens) → component_of ts ≡ old_component ts
unfolding old_component used_component measure_of
component_is [] = refl
component_is (ref ∷ []) = sym (none_behind (then.reference_of ref))
component_is (ref ∷ usage ∷ []) =
    ap (λ (o : Option (List ℕ)). cond (bytes_eq usage (codes "N")) (option_map part.NotUsed o) None) (reference_is ref)
    ∙ unused_by part.NotUsed (then.reference_of ref) (bytes_eq usage (codes "N")) _ (λ r. none_behind (then.requirement_of usage))
component_is (ref ∷ usage ∷ type ∷ []) =
    sym (never _ (then.reference_of ref) (λ r. either_none (bytes_eq usage (codes "N")) _
    (never _ (then.requirement_of usage) (λ q. ap (option_and_then _) (one_word type)))))
component_is (ref ∷ usage ∷ type ∷ least ∷ []) =
    sym (never _ (then.reference_of ref) (λ r. either_none (bytes_eq usage (codes "N")) _
    (never _ (then.requirement_of usage) (λ q. ap (option_and_then _) (two_words type least)))))
component_is (ref ∷ usage ∷ type ∷ least ∷ most ∷ ts) =
    ap (option_and_then (λ r. option_and_then (λ q. option_map part.Simple (row_of r q type least most ts)) (requirement_of usage)))
    (reference_is ref)
    ∙ same_steps _ _ (then.reference_of ref) (λ r. use_is usage _ _ (λ q. used_row r q type least most ts))

components_are : (gs : List Tokens) → all_of (map component_of gs) ≡ components_of_tokens gs
components_are [] = refl
components_are (g ∷ gs) =
    ap (option_and_then (λ c. option_map (λ (cs : List Component). c ∷ cs) (all_of (map component_of gs)))) (component_is g)
    ∙ ap (λ (more : Option (List Component)). option_and_then (λ c. option_map (λ (cs : List Component). c ∷ cs) more) (old_component g))
    (components_are gs)

-- what stands behind the first semicolon, whole and in its parts
abbrev Goes : List Tokens → Option Tokens → Type 0
Goes [] None = Unit {0}
Goes [] (Some ts) = ⊥
Goes (g ∷ gs) None = ⊥
Goes (g ∷ gs) (Some ts) = slice_split is_semicolon ts ≡ g ∷ gs

behind_are : (groups : List Tokens) (behind : Option Tokens) → Goes groups behind
    → all_of (map component_of groups) ≡ components_behind behind
behind_are [] None goes = refl
behind_are [] (Some ts) goes = absurd goes
behind_are (g ∷ gs) None goes = absurd goes
behind_are (g ∷ gs) (Some ts) goes = components_are (g ∷ gs) ∙ ap components_of_tokens (sym goes)

no_more_is : {A : Type 0} (x : A) (ts : Tokens) → no_more x ts ≡ old_no_more x ts
no_more_is x [] = refl
no_more_is x (t ∷ ts) = refl

alone_none : (behind : Option Tokens) → alone behind None ≡ None
alone_none None = refl
alone_none (Some ts) = refl

-- a composite
abbrev composed : List ℕ → Requirement → Option ℕ → Option (List Component) → Option Element
composed r q count components =
    option_and_then (λ n. option_and_then (λ cs.
    Some (row.Composite (record { reference = r; requirement = q; repeat = n; components = cs }))) components) count

composite_is : (r : List ℕ) (q : Requirement) (ts : Tokens) (groups : List Tokens) (behind : Option Tokens) → Goes groups behind
    → composed r q (no_more (take_repeat ts).0 (take_repeat ts).1) (all_of (map component_of groups)) ≡ composite_of r q ts behind
unfolding composite_of
composite_is r q ts groups behind goes =
    ap (composed r q (no_more (take_repeat ts).0 (take_repeat ts).1)) (behind_are groups behind goes)
    ∙ ap (λ (w : ℕ × Tokens). composed r q (no_more w.0 w.1) (components_behind behind)) (take_repeat_is ts)
    ∙ ap (λ o. composed r q o (components_behind behind)) (no_more_is (then.take_repeat ts).0 (then.take_repeat ts).1)

simple_is : (r : List ℕ) (q : Requirement) (type : List ℕ) (ts : Tokens) (groups : List Tokens) (behind : Option Tokens)
    → Goes groups behind → simple_of r q type ts groups ≡ alone behind (old_simple r q (type ∷ ts))
unfolding old_simple measure_of
simple_is r q type [] [] None goes = sym (ap (option_and_then _) (one_word type))
simple_is r q type (least ∷ []) [] None goes = sym (ap (option_and_then _) (two_words type least))
simple_is r q type (least ∷ most ∷ ts) [] None goes =
    ap (λ (w : ℕ × Tokens). option_map (λ s. row.Simple s w.0) (row_of r q type least most w.1)) (take_repeat_is ts)
    ∙ ap (option_map (λ s. row.Simple s (then.take_repeat ts).0)) (row_by_is r q type least most (then.take_repeat ts).1)
    ∙ row_then r q (then.type_of type) (count_of least) (count_of most) ts (λ us. (then.take_repeat us).1)
    (λ s us. row.Simple s (then.take_repeat us).0)
simple_is r q type [] (g ∷ gs) (Some us) goes = refl
simple_is r q type (least ∷ []) (g ∷ gs) (Some us) goes = refl
simple_is r q type (least ∷ most ∷ ts) (g ∷ gs) (Some us) goes = refl
simple_is r q type ts [] (Some us) goes = absurd goes
simple_is r q type ts (g ∷ gs) None goes = absurd goes

used_is : (r : List ℕ) (q : Requirement) (type : List ℕ) (ts : Tokens) (groups : List Tokens) (behind : Option Tokens) → Goes groups behind
    → cond (bytes_eq type (codes "C"))
    (composed r q (no_more (take_repeat ts).0 (take_repeat ts).1) (all_of (map component_of groups))) (simple_of r q type ts groups)
    ≡ cond (bytes_eq type (codes "C")) (composite_of r q ts behind) (alone behind (old_simple r q (type ∷ ts)))
used_is r q type ts groups behind goes =
    ap (λ o. cond (bytes_eq type (codes "C")) o (simple_of r q type ts groups)) (composite_is r q ts groups behind goes)
    ∙ ap (cond (bytes_eq type (codes "C")) (composite_of r q ts behind)) (simple_is r q type ts groups behind goes)

element_is : (head : Tokens) (groups : List Tokens) (behind : Option Tokens) → Goes groups behind
    → element_of head groups ≡ element_in head behind
unfolding element_in used_element
element_is [] groups behind goes = refl
element_is (ref ∷ []) groups behind goes = sym (none_behind (then.reference_of ref))
element_is (ref ∷ usage ∷ []) [] None goes =
    ap (λ (o : Option (List ℕ)). cond (bytes_eq usage (codes "N")) (option_map row.NotUsed o) None) (reference_is ref)
    ∙ unused_by row.NotUsed (then.reference_of ref) (bytes_eq usage (codes "N")) _ (λ r. none_behind (then.requirement_of usage))
element_is (ref ∷ usage ∷ []) (g ∷ gs) (Some us) goes =
    sym (never _ (then.reference_of ref) (λ r. either_none (bytes_eq usage (codes "N")) _ (none_behind (then.requirement_of usage))))
element_is (ref ∷ usage ∷ []) [] (Some us) goes = absurd goes
element_is (ref ∷ usage ∷ []) (g ∷ gs) None goes = absurd goes
element_is (ref ∷ usage ∷ type ∷ ts) groups behind goes =
    ap (option_and_then (λ r. option_and_then (λ q. cond (bytes_eq type (codes "C"))
    (composed r q (no_more (take_repeat ts).0 (take_repeat ts).1) (all_of (map component_of groups))) (simple_of r q type ts groups))
    (requirement_of usage))) (reference_is ref)
    ∙ same_steps _ _ (then.reference_of ref) (λ r. use_is usage _ _ (λ q. used_is r q type ts groups behind goes)
    ∙ ap (λ o. cond (bytes_eq usage (codes "N")) o (used_element r usage (type ∷ ts) behind)) (sym (alone_none behind)))

goes_behind : (ts : Tokens) → Goes (parts_behind is_semicolon ts) (behind_first ts)
goes_behind [] = tt
goes_behind (semicolon ∷ ts) =
    subst (λ (gs : List Tokens). Goes gs (Some ts)) (sym (parts_are is_semicolon ts)) (parts_are is_semicolon ts)

pub element_text_is : (text : List ℕ) → element_text text ≡ element_of_text text
element_text_is text =
    let ts : Tokens = tokens_of text in
    ap (λ (gs : List Tokens). element_of (head_or_none gs) (drop 1 gs)) (parts_are is_semicolon ts)
    ∙ element_is (take (position_or_len is_semicolon ts) ts) (parts_behind is_semicolon (drop (position_or_len is_semicolon ts) ts))
    (behind_first (drop (position_or_len is_semicolon ts) ts)) (goes_behind (drop (position_or_len is_semicolon ts) ts))
