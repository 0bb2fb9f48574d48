-- No difference of two rows narrows exactly where the new row is wider.
use Rattle.std.proofs.Common.{◌≡◌, ℕ, ◌+◌, List, [], ◌∷◌, Bool, true, false, Option, Some, None, refl}
use Rattle.std.specs.Prelude.{◌&&◌, nat_le}
use Rattle.guide_tree.specs.declared.element.CodeList.{CodeList}
use Rattle.guide_tree.specs.declared.element.Component.{Component}
use Rattle.guide_tree.specs.declared.element.Component.TheVariants as component
use Rattle.guide_tree.specs.declared.element.CompositeRow.{CompositeRow}
use Rattle.guide_tree.specs.declared.element.Element.{Element}
use Rattle.guide_tree.specs.declared.element.Element.TheVariants as element
use Rattle.guide_tree.specs.declared.element.Requirement.{Requirement}
use Rattle.guide_tree.specs.declared.element.SimpleRow.{SimpleRow}
use Rattle.guide_widening.specs.declared.difference.At.{At}
use Rattle.guide_widening.specs.declared.difference.Change.TheVariants.{Narrower, Wider}
use Rattle.guide_widening.specs.declared.difference.Key.TheVariants as key
use Rattle.guide_widening.specs.declared.difference.Presence.TheVariants as presence
use Rattle.guide_widening.specs.declared.difference.Value.TheVariants as value
use Rattle.guide_widening.specs.Changes.{unless, least_change, most_change, asked_change, requirement_change, type_change}
use Rattle.guide_widening.specs.RowDifferences as found
use Rattle.guide_widening.specs.Rows.{is_wider_requirement, is_wider_type, are_texts_of, is_wider_codes, is_wider_range}
use Rattle.guide_widening.specs.Rows.{fits_empty, is_optional}
use Rattle.guide_widening.specs.Rows.{is_wider_alphabet}
use Rattle.guide_widening.specs.Rows.{is_wider_row, fits_no_component, is_wider_component, are_wider_components, is_wider_composite}
use Rattle.guide_widening.specs.Rows.{is_wider_element, are_wider_elements}
use Rattle.guide_widening.proofs.Agreeing.{Says, both, turn, told, keeps, keeps_narrower, keeps_wider, keeps_least, keeps_most}
use Rattle.guide_widening.proofs.Agreeing.{gone_narrower, keeps_wide, new_wider}
use Rattle.guide_widening.proofs.Agreeing.{keeps_requirement, keeps_type, with_true, three, four}

codes_agree : (at : At) (old new : Option CodeList) → Says (found.codes_differences at old new) (is_wider_codes old new)
codes_agree at None None = record { is = refl }
codes_agree at None (Some new) = record { is = refl }
codes_agree at (Some old) None = record { is = refl }
codes_agree at (Some old) (Some new) =
    turn (both (gone_narrower at key.Code new.used old.used) (new_wider at key.Code old.used new.used)) (with_true (are_texts_of
    new.used old.used))

requirement_agrees : (at : At) (old new : Requirement) → Says (found.requirement_differences at old new) (is_wider_requirement old new)
requirement_agrees at old new =
    told at key.Presence (requirement_change old new) (value.Presence (found.required old)) (value.Presence (found.required new))
    (is_wider_requirement old new) (keeps_requirement old new)

repeat_agrees : (at : At) (old new : ℕ) → Says (found.repeat_differences at old new) (nat_le old new)
repeat_agrees at old new =
    told at key.Repeat (most_change old new) (value.Number old) (value.Number new) (nat_le old new) (keeps_most old new)

row_agrees : (at : At) (old new : SimpleRow) → Says (found.row_differences at old new) (is_wider_row old new)
row_agrees at old new =
    let type = told at key.Type (type_change old.data_type new.data_type) (value.Type old.data_type) (value.Type new.data_type)
    (is_wider_type old.data_type new.data_type) (keeps_type old.data_type new.data_type) in
    let least = told at key.LeastLength (least_change old.min new.min) (value.Number old.min) (value.Number new.min)
    (nat_le new.min old.min) (keeps_least old.min new.min) in
    let most = told at key.GreatestLength (most_change old.max new.max) (value.Number old.max) (value.Number new.max)
    (nat_le old.max new.max) (keeps_most old.max new.max) in
    let wide = told at key.Wide (asked_change new.wide old.wide) (value.Flag old.wide) (value.Flag new.wide)
    (is_wider_alphabet old.wide new.wide) (keeps_wide old.wide new.wide) in
    turn (both (both (requirement_agrees at old.requirement new.requirement) type)
    (both (both least most) (both wide (codes_agree at old.codes new.codes))))
    (four (is_wider_requirement old.requirement new.requirement && is_wider_type old.data_type new.data_type)
    (is_wider_range old.min old.max new.min new.max) (is_wider_alphabet old.wide new.wide) (is_wider_codes old.codes new.codes))

keeps_used : (b : Bool) → keeps (found.used_change b) ≡ b
keeps_used true = refl
keeps_used false = refl

component_agrees : (at : At) (old new : Component) → Says (found.component_differences at old new) (is_wider_component old new)
component_agrees at (component.NotUsed reference) (component.NotUsed other) = record { is = refl }
component_agrees at (component.NotUsed reference) (component.Simple new) =
    told at key.Presence (found.used_change (is_optional new.requirement)) (value.Presence presence.NotUsed)
    (value.Presence (found.required new.requirement)) (is_optional new.requirement) (keeps_used (is_optional new.requirement))
component_agrees at (component.Simple old) (component.NotUsed reference) = record { is = refl }
component_agrees at (component.Simple old) (component.Simple new) = row_agrees at old new

components_agree : (at : At) (n : ℕ) (old new : List Component)
    → Says (found.components_differences at n old new) (are_wider_components old new)
components_agree at n [] [] = record { is = refl }
components_agree at n [] (d ∷ new) =
    both (told (found.component_at at n) key.Presence (found.used_change (fits_no_component d)) value.Nothing
    (value.Presence (found.component_presence d)) (fits_no_component d) (keeps_used (fits_no_component d)))
    (components_agree at (n + 1) [] new)
components_agree at n (c ∷ old) [] = record { is = refl }
components_agree at n (c ∷ old) (d ∷ new) = both (component_agrees (found.component_at at n) c d) (components_agree at (n + 1) old new)

composite_agrees : (at : At) (old new : CompositeRow) → Says (found.composite_differences at old new) (is_wider_composite old new)
composite_agrees at old new =
    turn (both (requirement_agrees at old.requirement new.requirement)
    (both (repeat_agrees at old.repeat new.repeat) (components_agree at 1 old.components new.components)))
    (three (is_wider_requirement old.requirement new.requirement) (nat_le old.repeat new.repeat)
    (are_wider_components old.components new.components))

new_agrees : (at : At) (new : Element) → Says (found.new_presence at new) (fits_empty new)
new_agrees at new =
    told at key.Presence (found.used_change (fits_empty new)) (value.Presence presence.NotUsed)
    (value.Presence (found.element_presence new)) (fits_empty new) (keeps_used (fits_empty new))

element_agrees : (at : At) (old new : Element) → Says (found.element_differences at old new) (is_wider_element old new)
element_agrees at (element.NotUsed reference) (element.NotUsed other) = record { is = refl }
element_agrees at (element.NotUsed reference) (element.Simple new often) = new_agrees at (element.Simple new often)
element_agrees at (element.NotUsed reference) (element.Composite new) = new_agrees at (element.Composite new)
element_agrees at (element.Simple old repeat) (element.NotUsed reference) = record { is = refl }
element_agrees at (element.Simple old repeat) (element.Simple new often) =
    both (repeat_agrees at repeat often) (row_agrees at old new)
element_agrees at (element.Simple old repeat) (element.Composite new) = record { is = refl }
element_agrees at (element.Composite old) (element.NotUsed reference) = record { is = refl }
element_agrees at (element.Composite old) (element.Simple new often) = record { is = refl }
element_agrees at (element.Composite old) (element.Composite new) = composite_agrees at old new

pub elements_agree : (at : At) (n : ℕ) (old new : List Element)
    → Says (found.elements_differences at n old new) (are_wider_elements old new)
elements_agree at n [] [] = record { is = refl }
elements_agree at n [] (f ∷ new) =
    both (told (found.element_at at n) key.Presence (found.used_change (fits_empty f)) value.Nothing
    (value.Presence (found.element_presence f)) (fits_empty f) (keeps_used (fits_empty f)))
    (elements_agree at (n + 1) [] new)
elements_agree at n (e ∷ old) [] = record { is = refl }
elements_agree at n (e ∷ old) (f ∷ new) = both (element_agrees (found.element_at at n) e f) (elements_agree at (n + 1) old new)
