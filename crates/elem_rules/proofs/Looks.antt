-- The quick look at a segment, step by step.
use Rattle.std.proofs.Common.{◌≡◌, ℕ, zero, suc, ◌+◌, ◌<◌, ◌≤◌, ◌∙◌, List, [], ◌∷◌, Bool, true, false, length, get_or, drop, refl, ap, sym}
use Rattle.std.proofs.Common.{subst, arith, add-one}
use Rattle.std.specs.Prelude.{Option, Some, None, is_some, IsTrue, not, ◌==◌}
use Rattle.std.specs.Bool.{OnTrue}
use Rattle.std.specs.List.{All, list_all}
use mathlib.Core.Logic.{inl, inr}
use Rattle.std.proofs.lemmas.Bool.{cases_eq}
use Rattle.std.proofs.lemmas.Bool.Decides.{Decides-by_and, nat_tests}
use Rattle.std.proofs.lemmas.List.{get_or-drop}
use Rattle.std.proofs.lemmas.Option.{same_Some, slice_get-get_or}
use Rattle.memchr.specs.Find.{IsFirstByte, is_byte, is_byte2}
use Rattle.x12_bytes.specs.declared.delims.Delims.{Delims}
use Rattle.guide_tree.specs.declared.element.Element.{Element}
use Rattle.guide_tree.specs.declared.slot.Condition.{Condition}
use Rattle.guide_tree.specs.Words.{Segment, element_at}
use Rattle.elem_rules.specs.Rows.{nth}
use Rattle.elem_rules.specs.Clean.{fits, holds, marked, bits_to, has_bytes}
use Rattle.std.proofs.Common.{◌++◌, take}
use denote.Ref.{Bor}
use Rattle.std.specs.Prelude.{unwrap_or}
use Rattle.std.specs.List.{flat_map}
use Rattle.std.proofs.lemmas.Bool.{cases_lt}
use Rattle.std.proofs.lemmas.List.Elements.{All-nil, All-cons}
use Rattle.std.proofs.lemmas.Option.{slice_get_past}
use Rattle.elem_rules.specs.Divided.{is_filled}
use Rattle.elem_rules.specs.Clean.{is_set}
use Rattle.elem_rules.specs.Conditions.{condition_code}
use Rattle.elem_rules.specs.Found.{read, is_present_in, broken_found, condition_found_by, conditions_found}
use Rattle.elem_rules.proofs.Agreeing.{broken_agrees}
use Rattle.elem_rules.proofs.Quick.{is_set_to, is_set_past, not_marked}
use Rattle.elem_rules.proofs.Steps.{nth-more}
use Rattle.elem_rules.proofs.Plain.{IsPlain, plain_one, plain_two}

pub plain_by_one : (delims : Delims) (text : List ℕ) (r : Option ℕ) (b : Bool) → delims.repetition ≡ None → is_some r ≡ not b
    → IsFirstByte (is_byte delims.component) text r → OnTrue b (IsPlain delims text)
plain_by_one delims text r false none e h = tt
plain_by_one delims text (Some k) true none e h = cc
plain_by_one delims text None true none e h = plain_one delims text none h

pub plain_by_two : (delims : Delims) (text : List ℕ) (separator : ℕ) (r : Option ℕ) (b : Bool) → delims.repetition ≡ Some separator
    → is_some r ≡ not b → IsFirstByte (is_byte2 delims.component separator) text r → OnTrue b (IsPlain delims text)
plain_by_two delims text separator r false is e h = tt
plain_by_two delims text separator (Some k) true is e h = cc
plain_by_two delims text separator None true is e h = plain_two delims text separator is h

-- the next part is the next element
pub element_next : (s : Segment) (parts : List (List ℕ)) (text : List ℕ) (k : ℕ) → parts ≡ drop k (drop 1 s) → text ≡ get_or parts 0 []
    → text ≡ element_at s (k + 1)
element_next s parts text k so_far is =
    let same : 1 + (k + 0) ≡ k + 1 = omega arith in
    is ∙ ap (λ l. get_or l 0 []) so_far ∙ get_or-drop k (drop 1 s) 0 [] ∙ get_or-drop 1 s (k + 0) [] ∙ ap (λ i. get_or s i []) same

pub fit_more : (rows : List Element) (s : Segment) (k : ℕ) (x : Element) (text : List ℕ) → k < length rows → x ≡ get_or rows k x
    → text ≡ element_at s (k + 1) → fits x text ≡ true
    → ((i : ℕ) (row : Element) → i ≤ k → nth rows i ≡ Some row → IsTrue (fits row (element_at s i))) → (i : ℕ) (row : Element) → i ≤ k + 1
    → nth rows i ≡ Some row → IsTrue (fits row (element_at s i))
fit_more rows s k x text within is at fit before i row to there = elim (cases_eq i (k + 1)) [
  | inl e ↦
      let same : x ≡ row = same_Some x row (sym (nth-more rows k ∙ slice_get-get_or rows k x within ∙ ap Some (sym is))
      ∙ (ap (λ i. nth rows i) (sym e) ∙ there)) in
      subst (λ row. IsTrue (fits row (element_at s i))) same
      (subst (λ i. IsTrue (fits x (element_at s i))) (sym e) (subst (λ t. IsTrue (fits x t)) at fit))
  | inr e ↦ before i row (omega (arith, e)) there
]

pub has_length : (text : List ℕ) → not (length text == 0) ≡ has_bytes text
has_length [] = refl
has_length (byte ∷ bytes) =
    let some : (length (byte ∷ bytes) == 0) ≡ false = grind (arith, nat_tests) in
    ap not some

pub bits_next : (present : ℕ → Bool) (k : ℕ) → marked (bits_to present k) (k + 1) (present (k + 1)) ≡ bits_to present (k + 1)
bits_next present k = rw add-one refl

pub bits_more : (s : Segment) (k bits : ℕ) (text : List ℕ) (empty : Bool) (next : ℕ) → text ≡ element_at s (k + 1)
    → bits ≡ bits_to (λ k. has_bytes (element_at s k)) k → empty ≡ (length text == 0) → next ≡ marked bits (k + 1) (not empty)
    → next ≡ bits_to (λ k. has_bytes (element_at s k)) (k + 1)
bits_more s k bits text empty next at so_far is step =
    step ∙ ap (λ b. marked bits (k + 1) (not b)) is ∙ ap (λ b. marked bits (k + 1) b) (has_length text ∙ ap has_bytes at)
    ∙ ap (λ n. marked n (k + 1) (has_bytes (element_at s (k + 1)))) so_far ∙ bits_next (λ k. has_bytes (element_at s k)) k

pub all_hold : (present : ℕ → Bool) (conditions : List Condition)
    → IsTrue (list_all (λ c. holds present c.relation c.positions) conditions)
    → All (λ c. IsTrue (holds present c.relation c.positions)) conditions
all_hold present conditions h = (Decides-by_and (λ c. holds present c.relation c.positions)
    (λ c. IsTrue (holds present c.relation c.positions)) (list_all (λ c. holds present c.relation c.positions))
    (λ c. (λ t. t, λ t. t)) refl (λ _ _. refl) conditions).0 h

pub on_true : {P : Type 0} (b : Bool) → b ≡ true → OnTrue b P → P
on_true true e h = h
on_true false e h = cc

pub to_on_true : {P : Type 0} (b : Bool) → (b ≡ true → P) → OnTrue b P
to_on_true true h = h refl
to_on_true false h = tt

pub plain_of : (given delims : Delims) (bytes text : List ℕ) (b : Bool) → given ≡ delims → bytes ≡ text → b ≡ true
    → OnTrue b (IsPlain given bytes) → IsPlain delims text
plain_of given delims bytes text b e d is h = subst (λ t. IsPlain delims t) d (subst (λ g. IsPlain g bytes) e (on_true b is h))

-- the bits of a test that no position from 64 on passes
pub set_everywhere : (present : ℕ → Bool) (n : ℕ) → n < 64 → present 0 ≡ false → ((p : ℕ) → n < p → present p ≡ false) → (p : ℕ)
    → is_set (bits_to present n) p ≡ present p
set_everywhere present n few none past zero = ap (λ bit. bit == 1) (not_marked present n few) ∙ sym none
set_everywhere present n few none past (suc p) = elim (cases_lt n (suc p)) [
  | inl lt ↦ is_set_past present n (suc p) few lt ∙ sym (past (suc p) lt)
  | inr le ↦ is_set_to present n (suc p) (omega arith) le few
]

-- what the elements of a list of texts are
pub present_past : (delims : Delims) (texts : List (List ℕ)) (p : ℕ) → length texts < p → is_present_in delims texts p ≡ false
present_past delims texts zero past = absurd (omega arith)
present_past delims texts (suc p) past = ap (λ o. is_filled delims (unwrap_or o [])) (slice_get_past texts p (omega arith))

all_of : (P : ℕ → Type 0) → ((x : ℕ) → P x) → (xs : List ℕ) → All P xs
all_of P h [] = All-nil P
all_of P h (x ∷ xs) = All-cons P x xs (h x) (all_of P h xs)

found_by : (p q : ℕ → Bool) → ((x : ℕ) → p x ≡ q x) → (rows : List Element) (texts : List (List ℕ)) (conditions : List Condition)
    → flat_map (condition_found_by p rows texts) conditions ≡ flat_map (condition_found_by q rows texts) conditions
found_by p q e rows texts [] = refl
found_by p q e rows texts (c ∷ conditions) =
    ap (λ l. flat_map (broken_found rows texts (condition_code c.relation)) l ++ flat_map (condition_found_by p rows texts) conditions)
    (broken_agrees p q c.relation c.positions (all_of (λ x. p x ≡ q x) e c.positions))
    ∙ ap (λ l. condition_found_by q rows texts c ++ l) (found_by p q e rows texts conditions)

-- conditions are judged the same by the bits
pub found_by_bits : (delims : Delims) (rows : List Element) (texts : List (List ℕ)) (conditions : List Condition) (bits : ℕ)
    → length texts < 64 → bits ≡ bits_to (is_present_in delims texts) (length texts)
    → flat_map (condition_found_by (is_set bits) rows texts) conditions ≡ conditions_found delims rows conditions texts
found_by_bits delims rows texts conditions bits few is =
    found_by (is_set bits) (is_present_in delims texts)
    (λ p. ap (λ n. is_set n p) is ∙ set_everywhere (is_present_in delims texts) (length texts) few refl (present_past delims texts) p)
    rows texts conditions

pub read_length : (texts : List (Bor (List ℕ))) → length (read texts) ≡ length texts
read_length [] = refl
read_length (t ∷ texts) = ap suc (read_length texts)

pub take_few : {A : Type 0} (n : ℕ) (xs : List A) → length (take n xs) ≤ n
take_few zero xs = omega arith
take_few (suc n) [] = omega arith
take_few (suc n) (x ∷ xs) = omega (arith, take_few n xs)

pub texts_few : (texts items : List (Bor (List ℕ))) (rows rows' : List Element) (s : Segment) → length rows ≤ 40 → rows' ≡ rows
    → texts ≡ items → read items ≡ take (length rows') (drop 1 s) → length texts < 64
texts_few texts items rows rows' s few same is are =
    let a : length texts ≡ length (take (length rows) (drop 1 s)) =
    ap length is ∙ sym (read_length items) ∙ ap length are ∙ ap (λ r. length (take (length r) (drop 1 s))) same in
    omega (arith, a, take_few (length rows) (drop 1 s))
