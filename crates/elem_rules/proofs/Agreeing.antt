-- The texts that the walk keeps are those of the elements that have rows, so conditions are judged the same over them.
use Rattle.std.proofs.Common.{◌≡◌, ℕ, zero, suc, ◌+◌, ◌≤◌, ◌∙◌, List, [], ◌∷◌, Bool, true, false, length, get_or, take, drop, refl, ap}
use Rattle.std.proofs.Common.{arith}
use Rattle.std.specs.Prelude.{IsTrue, ◌&&◌, ◌||◌, not, nat_le, if◌then◌else◌}
use Rattle.std.specs.List.{All, list_all, list_any, filter}
use Rattle.std.proofs.lemmas.Bool.{leb-true, le-leb}
use Rattle.std.specs.Cmp.Derive.{both_true}
use Rattle.std.proofs.lemmas.Bool.Decides.{Decides-by_and}
use Rattle.std.proofs.lemmas.List.{get_or-take, get_or-drop}
use Rattle.std.proofs.lemmas.List.Elements.{All-head, All-tail, All-take, All-drop, All-weaker, All-filter, All-nil}
use Rattle.std.proofs.lemmas.Option.{unwrap_or-slice_get}
use Rattle.x12_bytes.specs.declared.delims.Delims.{Delims}
use Rattle.guide_tree.specs.declared.slot.Slot.{Slot}
use Rattle.guide_tree.specs.declared.slot.Condition.{Condition}
use Rattle.guide_tree.specs.declared.slot.Relation.{Relation}
use Rattle.guide_tree.specs.declared.slot.Relation.TheVariants as relation
use Rattle.guide_tree.specs.Words.{is_condition_of, is_distinct, has_row, Segment, element_at}
use Rattle.elem_rules.specs.Divided.{is_filled}
use Rattle.elem_rules.specs.Conditions.{is_present, absent, broken_at}
use Rattle.elem_rules.specs.Found.{text_at, texts_of, is_present_in}
use Rattle.moment.proofs.ForAbove.{both}

pub text_of_row : (slot : Slot) (s : Segment) (position : ℕ) → 1 ≤ position → position ≤ length slot.elements
    → text_at (texts_of slot s) position ≡ element_at s position
text_of_row slot s zero from to = absurd (omega arith)
text_of_row slot s (suc n) from to =
    let next : 1 + n ≡ suc n = omega arith in
    unwrap_or-slice_get (take (length slot.elements) (drop 1 s)) n [] ∙ get_or-take (length slot.elements) (drop 1 s) n [] (omega arith)
    ∙ get_or-drop 1 s n [] ∙ ap (λ i. get_or s i []) next

filter_agrees : (p q : ℕ → Bool) (xs : List ℕ) → All (λ x. p x ≡ q x) xs → filter p xs ≡ filter q xs
filter_agrees p q [] h = refl
filter_agrees p q (x ∷ xs) h =
    ap (λ b. if b then x ∷ filter p xs else filter p xs) (All-head (λ x. p x ≡ q x) x xs h)
    ∙ ap (λ l. if q x then x ∷ l else l) (filter_agrees p q xs (All-tail (λ x. p x ≡ q x) x xs h))

any_agrees : (p q : ℕ → Bool) (xs : List ℕ) → All (λ x. p x ≡ q x) xs → list_any p xs ≡ list_any q xs
any_agrees p q [] h = refl
any_agrees p q (x ∷ xs) h =
    ap (λ b. b || list_any p xs) (All-head (λ x. p x ≡ q x) x xs h)
    ∙ ap (λ b. q x || b) (any_agrees p q xs (All-tail (λ x. p x ≡ q x) x xs h))

absent_agrees : (p q : ℕ → Bool) (xs : List ℕ) → All (λ x. p x ≡ q x) xs → absent p xs ≡ absent q xs
absent_agrees p q xs h = filter_agrees (λ x. not (p x)) (λ x. not (q x)) xs
    (All-weaker (λ x. p x ≡ q x) (λ x. not (p x) ≡ not (q x)) (λ x e. ap not e) xs h)

pub broken_agrees : (p q : ℕ → Bool) (r : Relation) (xs : List ℕ) → All (λ x. p x ≡ q x) xs → broken_at p r xs ≡ broken_at q r xs
broken_agrees p q relation.Paired xs h = ap (λ b. if b then absent p xs else []) (any_agrees p q xs h)
    ∙ ap (λ l. if list_any q xs then l else []) (absent_agrees p q xs h)
broken_agrees p q relation.Required xs h = ap (λ b. if b then [] else take 1 xs) (any_agrees p q xs h)
broken_agrees p q relation.Exclusion xs h = ap (drop 1) (filter_agrees p q xs h)
broken_agrees p q relation.Conditional xs h =
    ap (λ b. if b then absent p (drop 1 xs) else []) (any_agrees p q (take 1 xs) (All-take (λ x. p x ≡ q x) 1 xs h))
    ∙ ap (λ l. if list_any q (take 1 xs) then l else []) (absent_agrees p q (drop 1 xs) (All-drop (λ x. p x ≡ q x) 1 xs h))
broken_agrees p q relation.ListConditional xs h =
    ap (λ b. if b then (if list_any p (drop 1 xs) then [] else take 1 (drop 1 xs)) else [])
    (any_agrees p q (take 1 xs) (All-take (λ x. p x ≡ q x) 1 xs h))
    ∙ ap (λ b. if list_any q (take 1 xs) then (if b then [] else take 1 (drop 1 xs)) else [])
    (any_agrees p q (drop 1 xs) (All-drop (λ x. p x ≡ q x) 1 xs h))

-- each position of a condition has a row
pub positions_have_rows : (slot : Slot) (c : Condition) → IsTrue (is_condition_of slot c)
    → All (λ p. (1 ≤ p) × (p ≤ length slot.elements)) c.positions
positions_have_rows slot c h =
    let a = both (nat_le 2 (length c.positions) && is_distinct c.positions) (list_all (has_row slot) c.positions) h in
    (Decides-by_and (has_row slot) (λ p. (1 ≤ p) × (p ≤ length slot.elements)) (list_all (has_row slot))
    (λ p. (
      λ e. let w = both (nat_le 1 p) (nat_le p (length slot.elements)) e
          in (leb-true 1 p w.0, leb-true p (length slot.elements) w.1),
      λ w. both_true (le-leb 1 p w.0)
          (le-leb p (length slot.elements) w.1),
    ))
    refl (λ _ _. refl) c.positions).0 a.1

pub conditions_hold : (slot : Slot) → IsTrue (list_all (is_condition_of slot) slot.conditions)
    → All (λ c. IsTrue (is_condition_of slot c)) slot.conditions
conditions_hold slot h = (Decides-by_and (is_condition_of slot) (λ c. IsTrue (is_condition_of slot c)) (list_all (is_condition_of slot))
    (λ c. (λ t. t, λ t. t)) refl (λ _ _. refl) slot.conditions).0 h

pub broken_same : (delims : Delims) (s : Segment) (slot : Slot) (c : Condition) → IsTrue (is_condition_of slot c)
    → broken_at (is_present_in delims (texts_of slot s)) c.relation c.positions ≡ broken_at (is_present delims s) c.relation c.positions
broken_same delims s slot c h =
    broken_agrees (is_present_in delims (texts_of slot s)) (is_present delims s) c.relation c.positions
    (All-weaker (λ p. (1 ≤ p) × (p ≤ length slot.elements)) (λ p. is_present_in delims (texts_of slot s) p ≡ is_present delims s p)
    (λ p w. ap (is_filled delims) (text_of_row slot s p w.0 w.1)) c.positions (positions_have_rows slot c h))

-- a condition is broken at positions that it lists
all_if : (P : ℕ → Type 0) (b : Bool) (xs ys : List ℕ) → All P xs → All P ys → All P (if b then xs else ys)
all_if P true xs ys h k = h
all_if P false xs ys h k = k

pub broken_within : (p : ℕ → Bool) (r : Relation) (P : ℕ → Type 0) (xs : List ℕ) → All P xs → All P (broken_at p r xs)
broken_within p relation.Paired P xs h = all_if P (list_any p xs) (absent p xs) [] (All-filter (λ x. not (p x)) P xs h) (All-nil P)
broken_within p relation.Required P xs h = all_if P (list_any p xs) [] (take 1 xs) (All-nil P) (All-take P 1 xs h)
broken_within p relation.Exclusion P xs h = All-drop P 1 (filter p xs) (All-filter p P xs h)
broken_within p relation.Conditional P xs h =
    all_if P (list_any p (take 1 xs)) (absent p (drop 1 xs)) [] (All-filter (λ x. not (p x)) P (drop 1 xs) (All-drop P 1 xs h)) (All-nil P)
broken_within p relation.ListConditional P xs h =
    all_if P (list_any p (take 1 xs)) (if list_any p (drop 1 xs) then [] else take 1 (drop 1 xs)) []
    (all_if P (list_any p (drop 1 xs)) [] (take 1 (drop 1 xs)) (All-nil P) (All-take P 1 (drop 1 xs) (All-drop P 1 xs h))) (All-nil P)
