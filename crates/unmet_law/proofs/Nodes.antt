-- Each body that nodes derive has a segment of each segment position that is mandatory, as is each loop round it.
use Rattle.std.proofs.Common.{◌≡◌, ◌≢◌, ◌≤◌, ◌+◌, ◌++◌, ◌∙◌, ◌⊎◌, inl, inr, ℕ, suc, Bool, true, false, cond, List, [], ◌∷◌}
use Rattle.std.proofs.Common.{Option, Some, None}
use Rattle.std.proofs.Common.{ap, arith, length, refl, subst, sym}
use Rattle.std.specs.Prelude.{◌==◌, slice_get}
use Rattle.std.specs.List.{AllByRecursion, Contains, position_from}
use Rattle.std.specs.Option.{option_map_or}
use Rattle.std.proofs.lemmas.List.Elements.{Contains-append_left, Contains-append_right}
use Rattle.x12_bytes.specs.declared.delims.Delims.{Delims}
use Rattle.guide_tree.specs.declared.element.Element.{Element}
use Rattle.guide_tree.specs.declared.element.Element.TheVariants as element
use Rattle.guide_tree.specs.declared.element.SimpleRow.{SimpleRow}
use Rattle.guide_tree.specs.declared.slot.Slot.{Slot}
use Rattle.guide_tree.specs.Words.{Derives, Given, IsPart, Segment, Tree, Trees, element_at, joined, loop, min_of, no_trees, segment, tree}
use Rattle.elem_rules.specs.ElementFaults.{IsElementFault, fault_at}
use Rattle.elem_rules.specs.Rows.{nth}
use Rattle.guide_warnings.specs.Unmet.{is_unmet_element, is_unmet_row, unmet_node, unmet_nodes, unmet_slot, unmet_warning}
use Rattle.guide_warnings.specs.declared.warning.Warning.{Warning}
use Rattle.night_equal_set.specs.Values.{ValuesAreOne}
use Rattle.unmet_law.specs.Unmet.{HasElementFault}
use Rattle.unmet_law.proofs.Rows.{at_fault}

-- the element that is found by its position
pub record IsPlaced (xs : List Element) (place : ℕ) : Type 0 where
  pub k : ℕ
  pub row : SimpleRow
  pub repeat : ℕ
  pub there : slice_get xs k ≡ Some (element.Simple row repeat)
  pub unmet : is_unmet_row row ≡ true

simple : (e : Element) (xs : List Element) (place : ℕ) → is_unmet_element e ≡ true → IsPlaced (e ∷ xs) place
simple (element.NotUsed reference) xs place unmet = cc
simple (element.Simple row repeat) xs place unmet = record { k = 0; row = row; repeat = repeat; there = refl; unmet = unmet }
simple (element.Composite c) xs place unmet = cc

further : (e : Element) (xs : List Element) (place : ℕ) → IsPlaced xs place → IsPlaced (e ∷ xs) place
further e xs place at = record { k = suc at.k; row = at.row; repeat = at.repeat; there = at.there; unmet = at.unmet }

placed_by : (e : Element) (xs : List Element) (from place : ℕ) (b : Bool) → is_unmet_element e ≡ b
    → (position_from is_unmet_element (from + 1) xs ≡ Some place → IsPlaced xs place)
    → cond b (Some from) (position_from is_unmet_element (from + 1) xs) ≡ Some place → IsPlaced (e ∷ xs) place
placed_by e xs from place true is behind found = simple e xs place is
placed_by e xs from place false is behind found = further e xs place (behind found)

placed : (xs : List Element) (from place : ℕ) → position_from is_unmet_element from xs ≡ Some place → IsPlaced xs place
placed [] from place found = cc
placed (e ∷ xs) from place found =
    placed_by e xs from place (is_unmet_element e) refl (placed xs (from + 1) place) found

slot_by : (s : Slot) (place : Option ℕ) → position_from is_unmet_element 1 s.elements ≡ place → unmet_slot s ≢ [] → IsPlaced s.elements 0
slot_by s None found some =
    absurd (some (ap (λ (o : Option ℕ). option_map_or (λ (n : ℕ). unmet_warning s n ∷ []) o []) found))
slot_by s (Some place) found some =
    let at = placed s.elements 1 place found in
    record { k = at.k; row = at.row; repeat = at.repeat; there = at.there; unmet = at.unmet }

-- a segment of such a slot has an element at fault
slot_fault : ValuesAreOne → (delims : Delims) (s : Slot) (seg : Segment) → unmet_slot s ≢ [] → HasElementFault delims ((seg, s) ∷ [])
slot_fault one delims s seg some =
    let at = slot_by s (position_from is_unmet_element 1 s.elements) refl some in
    let wrong = at_fault one delims at.row at.repeat (element_at seg (suc at.k)) at.unmet in
    record {
      given = (seg, s);
      among = (0, omega arith, refl);
      fault = fault_at delims seg s (suc at.k) wrong.0.component wrong.0.repetition wrong.0.code;
      is =
          inr (inl (record {
            position = suc at.k;
            row = element.Simple at.row at.repeat;
            there = at.there;
            w = wrong.0;
            wrong = wrong.1;
            is = refl;
          }));
    }

left : (delims : Delims) (xs ys : List Given) → HasElementFault delims xs → HasElementFault delims (xs ++ ys)
left delims xs ys has = record {
  given = has.given;
  among = Contains-append_left xs ys has.given has.among;
  fault = has.fault;
  is = has.is;
}

right : (delims : Delims) (xs ys : List Given) → HasElementFault delims ys → HasElementFault delims (xs ++ ys)
right delims xs ys has = record {
  given = has.given;
  among = Contains-append_right xs ys has.given has.among;
  fault = has.fault;
  is = has.is;
}

none_or_some : (ws : List Warning) → (ws ≡ []) ⊎ (ws ≢ [])
none_or_some [] = inl refl
none_or_some (w ∷ ws) = inr (λ e. cc)

min_by : (least : ℕ) (ws : List Warning) (b : Bool) → (least == 0) ≡ b → cond b [] ws ≢ [] → (1 ≤ least) × (ws ≢ [])
min_by least ws true is some = absurd (some refl)
min_by least ws false is some = (grind arith, some)

needed : (t : Tree) → unmet_node t ≢ [] → 1 ≤ min_of t
needed (segment s) some = (min_by s.min (unmet_slot s) (s.min == 0) refl some).0
needed (loop l ts) some = (min_by l.min (unmet_nodes ts) (l.min == 0) refl some).0

abbrev Faulty : Delims → Tree → Type 0
Faulty delims t = (xs : List Given) → IsPart t xs → HasElementFault delims xs

parts_fault : (delims : Delims) (t : Tree) (parts : List (List Given)) (rest : List Given) → Faulty delims t → 1 ≤ length parts
    → AllByRecursion (IsPart t) parts → HasElementFault delims (joined parts ++ rest)
parts_fault delims t [] rest own least all = absurd (omega arith)
parts_fault delims t (p ∷ ps) rest own least all =
    left delims (joined (p ∷ ps)) rest (left delims p (joined ps) (own p all.0))

tree_fault : (delims : Delims) (t : Tree) (ts : Trees) (parts : List (List Given)) (rest : List Given)
    → unmet_nodes (tree t ts) ≢ [] → min_of t ≤ length parts → AllByRecursion (IsPart t) parts
    → (unmet_node t ≢ [] → Faulty delims t) → (unmet_nodes ts ≢ [] → HasElementFault delims rest)
    → (unmet_node t ≡ []) ⊎ (unmet_node t ≢ []) → HasElementFault delims (joined parts ++ rest)
tree_fault delims t ts parts rest h least all own behind (inr is) =
    parts_fault delims t parts rest (own is) (let m = needed t is in omega arith) all
tree_fault delims t ts parts rest h least all own behind (inl is) =
    right delims (joined parts) rest (behind (λ e. h (ap (λ (ws : List Warning). ws ++ unmet_nodes ts) is ∙ e)))

module _ (one : ValuesAreOne) (delims : Delims) where
  mutual
    part_fault : (t : Tree) → unmet_node t ≢ [] → Faulty delims t
    part_fault (segment s) h xs (seg, fits, is) =
        subst (HasElementFault delims) (sym is)
        (slot_fault one delims s seg (min_by s.min (unmet_slot s) (s.min == 0) refl h).1)
    part_fault (loop l ts) h xs derived = nodes_fault ts (min_by l.min (unmet_nodes ts) (l.min == 0) refl h).1 xs derived

    pub nodes_fault : (ts : Trees) → unmet_nodes ts ≢ [] → (xs : List Given) → Derives ts xs → HasElementFault delims xs
    nodes_fault no_trees h xs derived = absurd (h refl)
    nodes_fault (tree t ts) h xs (parts, rest, least, most, all, derived, is) =
        subst (HasElementFault delims) (sym is)
        (tree_fault delims t ts parts rest h least all (λ own. part_fault t own)
        (λ behind. nodes_fault ts behind rest derived) (none_or_some (unmet_node t)))
