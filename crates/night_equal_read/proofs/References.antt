-- Reference numbers that are letters and digits by the definition are so by the layers.
use Rattle.std.proofs.Common.{◌≡◌, ℕ, Bool, List, [], ◌∷◌, map, true, refl, sym, ◌∙◌, subst}
use Rattle.std.specs.Char.{is_ascii_alphanumeric}
use Rattle.std.specs.List.{All, list_all}
use Rattle.std.proofs.lemmas.Bool.{and_parts}
use Rattle.std.proofs.lemmas.List.Elements.{All-cons, All-nil, All-weaker}
use Rattle.std.proofs.lemmas.List.Folds.{list_all-append}
use Rattle.std.proofs.lemmas.List.Sums.{AllPass-from_list_all}
use Rattle.guide_tree.specs.declared.element.Component.{Component}
use Rattle.guide_tree.specs.declared.element.Component.TheVariants as part
use Rattle.guide_tree.specs.declared.element.Element.{Element}
use Rattle.guide_tree.specs.declared.element.Element.TheVariants as row
use Rattle.guide_tree.specs.declared.rows.GuideRows.{GuideRows}
use Rattle.guide_tree.specs.declared.slot.Slot.{Slot}
use Rattle.guide_tree.specs.Tree.{EachIn, EachNode, Tree, Trees, loop, no_trees, segment, tree}
use Rattle.guide_tree.specs.View.{guide_of}
use Rattle.elem_rules.specs.Rows.{component_reference}
use Rattle.night_law.specs.Quotable.{IsGuidePlain, IsNodePlain, IsPlainReference, IsRowPlain}
use Rattle.night_definition.specs.Elements as room
use Rattle.night_definition.specs.Guides.{slots, slots_in}
use Rattle.night_definition.specs.ReadBack.{has_plain_references, references_of}

abbrev is_plain : List ℕ → Bool
is_plain text = list_all is_ascii_alphanumeric text

abbrev is_row : Element → Bool
is_row r = list_all is_plain (references_of r)

abbrev is_slot : Slot × List ℕ → Bool
is_slot x = list_all is_row x.0.elements

reference_is : (c : Component) → room.component_reference c ≡ component_reference c
reference_is (part.NotUsed reference) = refl
reference_is (part.Simple r) = refl

components_plain : (cs : List Component) → list_all is_plain (map room.component_reference cs) ≡ true
    → All (λ c. IsPlainReference (component_reference c)) cs
components_plain [] all = All-nil (λ c. IsPlainReference (component_reference c))
components_plain (c ∷ cs) all =
    let both = and_parts (is_plain (room.component_reference c)) (list_all is_plain (map room.component_reference cs)) all in
    All-cons (λ c. IsPlainReference (component_reference c)) c cs (subst IsPlainReference (reference_is c) both.0)
    (components_plain cs both.1)

row_plain : (r : Element) → is_row r ≡ true → IsRowPlain r
row_plain (row.NotUsed reference) all =
    ((and_parts (is_plain reference) true all).0, All-nil (λ c. IsPlainReference (component_reference c)))
row_plain (row.Simple r repeat) all =
    ((and_parts (is_plain r.reference) true all).0, All-nil (λ c. IsPlainReference (component_reference c)))
row_plain (row.Composite r) all =
    let both = and_parts (is_plain r.reference) (list_all is_plain (map room.component_reference r.components)) all in
    (both.0, components_plain r.components both.1)

mutual
  node_plain : (id : List ℕ) (t : Tree) → list_all is_slot (slots_in id t) ≡ true → EachIn IsNodePlain t
  node_plain id (segment s) all =
      All-weaker (λ r. is_row r ≡ true) IsRowPlain row_plain s.elements
      (AllPass-from_list_all is_row s.elements (and_parts (list_all is_row s.elements) true all).0)
  node_plain id (loop l ts) all = (tt, nodes_plain l.id ts all)

  nodes_plain : (id : List ℕ) (ts : Trees) → list_all is_slot (slots id ts) ≡ true → EachNode IsNodePlain ts
  nodes_plain id no_trees all = tt
  nodes_plain id (tree t ts) all =
      let both = and_parts (list_all is_slot (slots_in id t)) (list_all is_slot (slots id ts))
      (sym (list_all-append is_slot (slots_in id t) (slots id ts)) ∙ all) in
      (node_plain id t both.0, nodes_plain id ts both.1)

pub guides_plain : (gs : List GuideRows) → list_all has_plain_references (map guide_of gs) ≡ true → All IsGuidePlain gs
guides_plain [] all = All-nil IsGuidePlain
guides_plain (g ∷ gs) all =
    let both = and_parts (has_plain_references (guide_of g)) (list_all has_plain_references (map guide_of gs)) all in
    All-cons IsGuidePlain g gs (nodes_plain [] (guide_of g).nodes both.0) (guides_plain gs both.1)
