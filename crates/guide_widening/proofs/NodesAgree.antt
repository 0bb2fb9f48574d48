-- No difference of nodes narrows exactly where the new nodes are wider.
use Rattle.std.proofs.Common.{◌≡◌, ℕ, suc, List, ◌++◌, Bool, true, false, Some, refl, sym, ap, ◌∙◌}
use Rattle.std.specs.Prelude.{◌&&◌, ◌==◌, nat_le, if◌then◌else◌}
use Rattle.std.specs.List.{list_all}
use Rattle.std.specs.Option.{option_map_or}
use Rattle.std.specs.Str.{bytes_eq}
use Rattle.std.proofs.lemmas.Bool.{and_parts}
use Rattle.guide_tree.specs.declared.node.Loop.{Loop}
use Rattle.guide_tree.specs.declared.slot.Condition.{Condition}
use Rattle.guide_tree.specs.declared.slot.Pick.{Pick}
use Rattle.guide_tree.specs.declared.slot.Slot.{Slot}
use Rattle.guide_tree.specs.Words.{Tree, Trees, segment, loop, no_trees, tree, min_of, max_of, node_number, can_fit_both}
use Rattle.guide_widening.specs.declared.difference.At.{At}
use Rattle.guide_widening.specs.declared.difference.Change.TheVariants.{Narrower, Wider}
use Rattle.guide_widening.specs.declared.difference.Difference.{Difference}
use Rattle.guide_widening.specs.declared.difference.Key.TheVariants as key
use Rattle.guide_widening.specs.declared.difference.Value.TheVariants as value
use Rattle.guide_widening.specs.Changes.{is_widening, least_change, most_change, label_change, text_value}
use Rattle.guide_widening.specs.NodeDifferences as found
use Rattle.guide_widening.specs.NodeDifferences.{at_node, first_nodes, nodes_from, first_of, left_of, before_same, gone_node, new_nodes}
use Rattle.guide_widening.specs.NodeDifferences.{node_differences, nodes_differences, against_differences, rest_after}
use Rattle.guide_widening.specs.Nodes.{is_same_text, are_wider_picks, are_wider_conditions, is_wider_slot, is_wider_loop, begins_alike}
use Rattle.guide_widening.specs.Nodes.{is_same_node, is_wider_node, are_wider_nodes}
use Rattle.guide_widening.specs.Rows.{is_wider_range, are_wider_elements}
use Rattle.guide_widening.proofs.Agreeing.{Says, both, turn, told, itself, keeps_other, keeps_if, keeps_least, keeps_most}
use Rattle.guide_widening.proofs.Agreeing.{items_narrower, items_wider, with_true, five}
use Rattle.guide_widening.proofs.RowsAgree.{elements_agree}

uses_agree : (at : At) (a b c d : ℕ) → Says (found.use_differences at a b c d) (is_wider_range a b c d)
uses_agree at a b c d =
    both (told at key.LeastUse (least_change a c) (value.Number a) (value.Number c) (nat_le c a) (keeps_least a c))
    (told at key.GreatestUse (most_change b d) (value.Number b) (value.Number d) (nat_le b d) (keeps_most b d))

picks_agree : (at : At) (old new : List Pick) → Says (found.pick_differences at old new) (are_wider_picks old new)
picks_agree at old new =
    let before = found.pick_beside old in
    let after = found.pick_beside new in
    turn (both (items_narrower (found.is_pick_kept old) at key.Pick before after new)
    (items_wider (found.is_pick_kept new) at key.Pick before after old))
    (with_true (are_wider_picks old new))

conditions_agree : (at : At) (old new : List Condition) → Says (found.condition_differences at old new) (are_wider_conditions old new)
conditions_agree at old new =
    turn (both (items_narrower (found.is_condition_in old) at key.Condition (λ c. value.Nothing) found.condition_value new)
    (items_wider (found.is_condition_in new) at key.Condition found.condition_value
    (λ c. value.Nothing) old)) (with_true (are_wider_conditions old new))

slot_agrees : (old new : Slot) → can_fit_both old new ≡ true → Says (found.slot_differences old new) (is_wider_slot old new)
slot_agrees old new same =
    let at = at_node new.number in
    let l = is_same_text old.label new.label in
    let g = is_wider_range old.min old.max new.min new.max in
    let p = are_wider_picks old.picks new.picks in
    let e = are_wider_elements old.elements new.elements in
    let c = are_wider_conditions old.conditions new.conditions in
    let id : bytes_eq old.id new.id ≡ true = (and_parts (bytes_eq old.id new.id) _ same).0 in
    let label = told at key.Label (label_change old.label new.label) (text_value old.label) (text_value new.label) l (keeps_other l) in
    turn (turn (both label (both (uses_agree at old.min old.max new.min new.max) (both (picks_agree at old.picks new.picks)
    (both (elements_agree at 1 old.elements new.elements) (conditions_agree at old.conditions new.conditions))))) (five l g p e c))
    (ap (λ (i : Bool). ((((i && l) && g) && p) && e) && c) (sym id))

loop_agrees : (old new : Loop) → bytes_eq old.id new.id ≡ true → Says (found.loop_differences old new) (is_wider_loop old new)
loop_agrees old new id =
    turn (uses_agree (at_node new.number) old.min old.max new.min new.max)
    (ap (λ (i : Bool). i && is_wider_range old.min old.max new.min new.max) (sym id))

new_node_agrees : (u : Tree) → Says (found.new_node u) (min_of u == 0)
new_node_agrees u =
    told (at_node (node_number u)) key.Node (Some (if min_of u == 0 then Wider else Narrower)) value.Nothing
    (value.Uses (min_of u) (max_of u)) (min_of u == 0) (keeps_if (min_of u == 0))

new_agrees : (us : Trees) → Says (new_nodes us) (are_wider_nodes no_trees us)
new_agrees no_trees = record { is = refl }
new_agrees (tree u us) = both (new_node_agrees u) (new_agrees us)

-- an old node against new ones of which k come before the same one, and the others are given
abbrev against_from : Tree → Trees → ℕ → Trees → List Difference
against_from t us k from =
    option_map_or (λ u. new_nodes (first_nodes k us) ++ node_differences t u) (first_of from) (gone_node t)

abbrev all_from : Tree → Trees → Trees → ℕ → Trees → Bool
all_from t ts us k from =
    list_all is_widening (against_from t us k from) && list_all is_widening (nodes_differences ts (left_of us from))

never : (m x y : Bool) → (m && (false && x)) ≡ (false && y)
never true x y = refl
never false x y = refl

moved : (m a n r : Bool) → (m && ((a && n) && r)) ≡ (((m && a) && n) && r)
moved true a n r = refl
moved false a n r = refl

-- one more new node before the same one
one_more : (t u : Tree) (ts us : Trees) (k : ℕ) (from : Trees)
    → ((min_of u == 0) && all_from t ts us k from) ≡ all_from t ts (tree u us) (suc k) from
one_more t u ts us k no_trees =
    never (min_of u == 0) (list_all is_widening (nodes_differences ts us)) (list_all is_widening (nodes_differences ts (tree u us)))
one_more t u ts us k (tree v after) =
    let m = min_of u == 0 in
    let a = list_all is_widening (new_nodes (first_nodes k us)) in
    let n = list_all is_widening (node_differences t v) in
    let r = list_all is_widening (nodes_differences ts after) in
    let here : Says (new_nodes (first_nodes k us) ++ node_differences t v) (a && n) =
    both (itself (new_nodes (first_nodes k us))) (itself (node_differences t v)) in
    let more : Says (new_nodes (tree u (first_nodes k us)) ++ node_differences t v) ((m && a) && n) =
    both (both (new_node_agrees u) (itself (new_nodes (first_nodes k us)))) (itself (node_differences t v)) in
    ap (λ (x : Bool). m && (x && r)) here.is ∙ moved m a n r ∙ ap (λ (x : Bool). x && r) (sym more.is)

module _ (t : Tree) (ts : Trees) (node : (u : Tree) → is_same_node t u ≡ true → Says (node_differences t u) (is_wider_node t u))
    (rest : (us : Trees) → Says (nodes_differences ts us) (are_wider_nodes ts us)) where
  walk_agrees : (us : Trees) → are_wider_nodes (tree t ts) us ≡ all_from t ts us (before_same t us) (nodes_from (before_same t us) us)
  walk_agrees no_trees = refl
  walk_agrees (tree u us) = by (walk_agrees us) (is_same_node t u) refl
    where
      by : are_wider_nodes (tree t ts) us ≡ all_from t ts us (before_same t us) (nodes_from (before_same t us) us)
          → (b : Bool) → is_same_node t u ≡ b
          → (if b then is_wider_node t u && are_wider_nodes ts us else (min_of u == 0) && are_wider_nodes (tree t ts) us)
          ≡ all_from t ts (tree u us) (if b then 0 else suc (before_same t us))
          (nodes_from (if b then 0 else suc (before_same t us)) (tree u us))
      by later true h =
          ap (λ (x : Bool). x && are_wider_nodes ts us) (sym (node u h).is)
          ∙ ap (λ (x : Bool). list_all is_widening (node_differences t u) && x) (sym (rest us).is)
      by later false h =
          ap (λ (x : Bool). (min_of u == 0) && x) later
          ∙ one_more t u ts us (before_same t us) (nodes_from (before_same t us) us)

mutual
  node_agrees : (t u : Tree) → is_same_node t u ≡ true → Says (node_differences t u) (is_wider_node t u)
  node_agrees (segment s) (segment t) h = slot_agrees s t h
  node_agrees (segment s) (loop k us) h = record { is = refl }
  node_agrees (loop l ts) (segment t) h = record { is = refl }
  node_agrees (loop l ts) (loop k us) h =
      both (loop_agrees l k (and_parts (bytes_eq l.id k.id) (begins_alike ts us) h).0) (nodes_agree ts us)

  pub nodes_agree : (ts us : Trees) → Says (nodes_differences ts us) (are_wider_nodes ts us)
  nodes_agree no_trees us = new_agrees us
  nodes_agree (tree t ts) us =
      turn (both (itself (against_differences t us)) (itself (nodes_differences ts (rest_after t us))))
      (sym (walk_agrees t ts (λ u h. node_agrees t u h) (λ vs. nodes_agree ts vs) us))
