-- The quick look by flat rows, step by step.
use Rattle.std.proofs.Common.{◌≡◌, ℕ, zero, suc, ◌+◌, ◌<◌, ◌≤◌, ◌∙◌, List, [], ◌∷◌, Bool, true, false, length, get_or, refl, ap, sym}
use Rattle.std.proofs.Common.{subst, arith}
use Rattle.std.specs.Prelude.{Some, IsTrue, bit_and}
use mathlib.Core.Logic.{inl, inr}
use Rattle.std.proofs.lemmas.Bool.{cases_Bool, cases_eq, cases_lt, false≢true}
use Rattle.std.specs.Prelude.{slice_get, take}
use Rattle.std.specs.List.{All, list_all}
use Rattle.std.proofs.lemmas.List.{append_assoc, append-nil, get_or_append_left, get_or_push, length-append}
use Rattle.std.proofs.lemmas.List.Elements.{All-more, All-weaker}
use Rattle.std.proofs.lemmas.List.Folds.{list_all-append}
use Rattle.std.proofs.lemmas.Option.{get_or_from_slice_get, none-some, same_Some, slice_get-get_or, slice_get_within}
use Rattle.guide_tree.specs.declared.slot.Condition.{Condition}
use Rattle.guide_tree.specs.declared.slot.Slot.{Slot}
use Rattle.guide_tree.specs.Words.{has_row, is_condition_of, is_distinct}
use Rattle.moment.proofs.ForAbove.{both}
use Rattle.elem_rules.specs.declared.flat_condition.FlatCondition.{FlatCondition}
use Rattle.elem_rules.proofs.Agreeing.{conditions_hold}
use Rattle.guide_tree.specs.declared.element.Element.{Element}
use Rattle.guide_tree.specs.Words.{Segment, element_at}
use Rattle.elem_rules.specs.Rows.{nth}
use Rattle.std.proofs.Common.{◌++◌}
use Rattle.std.specs.Prelude.{Option, is_none, not, nat_le, ◌&&◌}
use Rattle.std.specs.Option.{option_map_or}
use Rattle.guide_tree.specs.declared.element.SimpleRow.{SimpleRow}
use Rattle.guide_tree.specs.declared.element.Element.TheVariants as element
use Rattle.hub_kinds.specs.declared.codes.ElementCode.{ElementCode}
use Rattle.elem_rules.specs.declared.flat_row.FlatRow.{FlatRow}
use Rattle.elem_rules.specs.Flat.{holds_by, ArePairs, AreFlatConditions, IsFlatCondition, IsFlatElement, IsFlatOf, IsGrown}
use Rattle.elem_rules.proofs.Looks.{bits_next}
use Rattle.elem_rules.specs.Clean.{fits, fits_empty, holds, is_set, marked, bits_to, has_bytes}
use Rattle.elem_rules.proofs.Masks.{set_within}
use Rattle.elem_rules.proofs.Members.{nth_within}
use Rattle.elem_rules.proofs.Quick.{is_set_to, is_set_past}
use Rattle.elem_rules.proofs.Steps.{nth-more}

-- the item at an index is the one with the next number
pub nth_at : {X : Type 0} (xs : List X) (k : ℕ) (x : X) → k < length xs → x ≡ get_or xs k x → nth xs (k + 1) ≡ Some x
nth_at xs k x within is = nth-more xs k ∙ slice_get-get_or xs k x within ∙ ap Some (sym is)

pub filled_more : (rows : List Element) (s : Segment) (k : ℕ) (x : Element) (text : List ℕ) → k < length rows → x ≡ get_or rows k x
    → text ≡ element_at s (k + 1) → (IsTrue (has_bytes text) → IsTrue (fits x text))
    → ((i : ℕ) (row : Element) → i ≤ k → nth rows i ≡ Some row → IsTrue (has_bytes (element_at s i)) → IsTrue (fits row (element_at s i)))
    → (i : ℕ) (row : Element) → i ≤ k + 1 → nth rows i ≡ Some row → IsTrue (has_bytes (element_at s i)) → IsTrue (fits row (element_at s i))
filled_more rows s k x text within is at fit before i row to there = elim (cases_eq i (k + 1)) [
  | inl e ↦
      let same : x ≡ row = same_Some x row (sym (nth_at rows k x within is) ∙ (ap (λ i. nth rows i) (sym e) ∙ there)) in
      subst (λ row. IsTrue (has_bytes (element_at s i)) → IsTrue (fits row (element_at s i))) same
      (subst (λ i. IsTrue (has_bytes (element_at s i)) → IsTrue (fits x (element_at s i))) (sym e)
      (subst (λ t. IsTrue (has_bytes t) → IsTrue (fits x t)) at fit))
  | inr e ↦ before i row (omega (arith, e)) there
]

empty_of : (text : List ℕ) → has_bytes text ≡ false → text ≡ []
empty_of [] h = refl
empty_of (byte ∷ bytes) h = cc

-- each row fits: filled elements by their values, and empty ones because no mandatory row is without its bit
pub fit_each : (rows : List Element) (s : Segment) (n must bits : ℕ) → n < 64
    → ((k : ℕ) (row : Element) → k ≤ n → nth rows k ≡ Some row → IsTrue (has_bytes (element_at s k)) → IsTrue (fits row (element_at s k)))
    → ((k : ℕ) → n < k → element_at s k ≡ []) → bits ≡ bits_to (λ k. has_bytes (element_at s k)) n → bit_and bits must ≡ must
    → ((k : ℕ) (row : Element) → nth rows k ≡ Some row → is_set must k ≡ false → IsTrue (fits_empty row)) → (k : ℕ) (row : Element)
    → nth rows k ≡ Some row → IsTrue (fits row (element_at s k))
fit_each rows s n must bits small filled past are subset needed k row there = elim (cases_Bool (has_bytes (element_at s k))) [
  | inl some ↦ elim (cases_lt n k) [
    | inl lt ↦ absurd (false≢true (sym (ap has_bytes (past k lt)) ∙ some))
    | inr le ↦ filled k row le there some
  ]
  | inr none ↦
      let unset : is_set bits k ≡ false = ap (λ b. is_set b k) are ∙ elim (cases_lt n k) [
        | inl lt ↦ is_set_past (λ k. has_bytes (element_at s k)) n k small lt
        | inr le ↦ is_set_to (λ k. has_bytes (element_at s k)) n k (nth_within rows k row there).0 le small ∙ none
      ] in
      let free : is_set must k ≡ false = elim (cases_Bool (is_set must k)) [
        | inl set ↦ absurd (false≢true (sym unset ∙ set_within bits must subset k set))
        | inr not_set ↦ not_set
      ] in
      subst (λ t. IsTrue (fits row t)) (sym (empty_of (element_at s k) none)) (needed k row there free)
]

-- a simple row's element
pub element_flat : (flat : FlatRow) (numbers : List ℕ) (row : SimpleRow) (repeat : ℕ) → IsFlatOf flat numbers row → (more : List ℕ)
    → IsFlatElement flat (numbers ++ more) (element.Simple row repeat)
element_flat flat numbers row repeat h more [] narrow filled sure = cc
element_flat flat numbers row repeat h more (byte ∷ bytes) narrow filled sure =
    ap (λ (o : Option ElementCode). is_none o) (h more (byte ∷ bytes) narrow sure)

-- a row may not be empty
abbrev pub is_needed : List Element → ℕ → Bool
is_needed rows k = option_map_or (λ row. not (fits_empty row)) (nth rows k) false

pub needed_more : (rows : List Element) (k bits next : ℕ) (x : Element) (free : Bool) → k < length rows → x ≡ get_or rows k x
    → bits ≡ bits_to (is_needed rows) k → free ≡ fits_empty x → next ≡ marked bits (k + 1) (not free)
    → next ≡ bits_to (is_needed rows) (k + 1)
needed_more rows k bits next x free within is so_far empty step =
    let here : is_needed rows (k + 1) ≡ not (fits_empty x) =
    ap (λ (o : Option Element). option_map_or (λ row. not (fits_empty row)) o false) (nth_at rows k x within is) in
    step ∙ ap (λ b. marked bits (k + 1) (not b)) empty ∙ ap (λ b. marked bits (k + 1) b) (sym here)
    ∙ ap (λ n. marked n (k + 1) (is_needed rows (k + 1))) so_far ∙ bits_next (is_needed rows) k

not_needed : (b : Bool) → not b ≡ false → b ≡ true
not_needed true h = refl
not_needed false h = cc

pub needed_all : (rows : List Element) (must : ℕ) → length rows ≤ 40 → must ≡ bits_to (is_needed rows) (length rows) → (k : ℕ)
    (row : Element) → nth rows k ≡ Some row → is_set must k ≡ false → IsTrue (fits_empty row)
needed_all rows must few are k row there free =
    let w = nth_within rows k row there in
    not_needed (fits_empty row) (ap (λ (o : Option Element). option_map_or (λ row. not (fits_empty row)) o false) (sym there)
    ∙ sym (is_set_to (is_needed rows) (length rows) k w.0 w.1 (omega (arith, few))) ∙ ap (λ n. is_set n k) (sym are) ∙ free)

-- one more pair
pub pairs_more : {X Y : Type 0} (R : X → Y → Type 0) (xs : List X) (ys : List Y) (x : X) (y : Y) (k : ℕ) → length xs ≡ k
    → slice_get ys k ≡ Some y → R x y → ArePairs R xs ys → ArePairs R (xs ++ x ∷ []) ys
pairs_more R xs ys x y k many is here before zero a b at to = absurd (none-some a at)
pairs_more R xs ys x y k many is here before (suc i) a b at to = elim (cases_lt i k) [
  | inl lt ↦
      let small : i < length xs = omega (arith, many, lt) in
      let old : get_or xs i a ≡ a =
      sym (get_or_append_left xs (x ∷ []) a i small) ∙ get_or_from_slice_get (xs ++ x ∷ []) i a a at in
      before (suc i) a b (slice_get-get_or xs i a small ∙ ap Some old) to
  | inr le ↦
      let there : i < length (xs ++ x ∷ []) = slice_get_within (xs ++ x ∷ []) i a at in
      let same : i ≡ k = omega (arith, there, length-append xs (x ∷ []), many, le) in
      let one : x ≡ a = sym (get_or_push xs x a i (many ∙ sym same)) ∙ get_or_from_slice_get (xs ++ x ∷ []) i a a at in
      let other : y ≡ b = same_Some y b (sym is ∙ ap (slice_get ys) (sym same) ∙ to) in
      subst (λ a. R a b) one (subst (λ b. R x b) other here)
]

-- however the table grows
abbrev pub IsStable : (numbers : List ℕ) → FlatRow → Element → Type 0
IsStable numbers f row = (more : List ℕ) → IsFlatElement f (numbers ++ more) row

pub rows_more : (flat : List FlatRow) (rows : List Element) (f : FlatRow) (row : Element) (k : ℕ) (old new : List ℕ) → length flat ≡ k
    → k < length rows → row ≡ get_or rows k row → IsGrown old new → IsStable new f row → ArePairs (IsStable old) flat rows
    → ArePairs (IsStable new) (flat ++ f ∷ []) rows
rows_more flat rows f row k old new many within is grown here before =
    pairs_more (IsStable new) flat rows f row k many (slice_get-get_or rows k row within ∙ ap Some (sym is)) here
    (λ i g r a b more. subst (λ (l : List ℕ). IsFlatElement g l r)
    (sym (ap (λ (l : List ℕ). l ++ more) grown.1 ∙ append_assoc old grown.0 more)) (before i g r a b (grown.0 ++ more)))

pub rows_now : (flat : List FlatRow) (rows : List Element) (numbers : List ℕ) → ArePairs (IsStable numbers) flat rows
    → ArePairs (λ f row. IsFlatElement f numbers row) flat rows
rows_now flat rows numbers h k f row a b =
    subst (λ (l : List ℕ). IsFlatElement f l row) (append-nil numbers) (h k f row a b [])

-- of the row at an index
pub flat_at : (flat : List FlatRow) (rows : List Element) (numbers : List ℕ) (d : FlatRow) (row : Element) (k : ℕ)
    → length flat ≡ length rows → ArePairs (λ f row. IsFlatElement f numbers row) flat rows → k < length rows
    → row ≡ get_or rows k row → IsFlatElement (get_or flat k d) numbers row
flat_at flat rows numbers d row k many each within at =
    each (k + 1) (get_or flat k d) row (nth-more flat k ∙ slice_get-get_or flat k d (omega (arith, many, within)))
    (nth_at rows k row within at)

-- one more condition
pub conditions_more : (fs : List FlatCondition) (cs : List Condition) (f : FlatCondition) (c : Condition) (k : ℕ) → k < length cs
    → c ≡ get_or cs k c → IsFlatCondition f c → AreFlatConditions fs (take k cs) → AreFlatConditions (fs ++ f ∷ []) (take (k + 1) cs)
conditions_more fs cs f c k within is here before bits few h =
    let holds_flat : FlatCondition → Bool = λ c. holds_by c.relation c.first c.rest bits in
    let a = both (list_all holds_flat fs) (list_all holds_flat (f ∷ [])) (sym (list_all-append holds_flat fs (f ∷ [])) ∙ h) in
    let last = both (holds_flat f) true a.1 in
    All-more (λ c. IsTrue (holds (is_set bits) c.relation c.positions)) cs k c within (before bits few a.0)
    (subst (λ c. IsTrue (holds (is_set bits) c.relation c.positions)) is (here bits few last.0))

-- no condition of a sound slot names an element twice
pub named_once : (slot : Slot) → IsTrue (list_all (is_condition_of slot) slot.conditions)
    → All (λ c. IsTrue (is_distinct c.positions)) slot.conditions
named_once slot sound =
    All-weaker (λ c. IsTrue (is_condition_of slot c)) (λ c. IsTrue (is_distinct c.positions))
    (λ c h. (both (nat_le 2 (length c.positions)) (is_distinct c.positions)
    (both (nat_le 2 (length c.positions) && is_distinct c.positions) (list_all (has_row slot) c.positions) h).0).1)
    slot.conditions (conditions_hold slot sound)
