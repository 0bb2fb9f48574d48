-- One step of a walk: what was found up to a number, and what is left after it.
use Rattle.std.proofs.Common.{◌≡◌, ℕ, ◌+◌, ◌-◌, ◌<◌, ◌≤◌, ◌∙◌, List, [], ◌++◌, length, get_or, drop, refl, ap, sym, arith, add-one, zero}
use Rattle.std.proofs.Common.{suc, append_assoc, append-nil}
use mathlib.Core.Logic.{inl, inr}
use Rattle.std.proofs.lemmas.Bool.{cases_eq}
use Rattle.std.specs.Prelude.{Some, slice_get, unwrap_or}
use Rattle.std.specs.Option.{option_map_or, option_map}
use denote.Ref.{Bor}
use Rattle.std.proofs.lemmas.List.{get_or-drop, drop-drop}
use Rattle.std.proofs.lemmas.Option.{slice_get-get_or, slice_get-map}
use Rattle.x12_bytes.specs.declared.delims.Delims.{Delims}
use Rattle.guide_tree.specs.declared.element.Element.{Element}
use Rattle.guide_tree.specs.declared.slot.Slot.{Slot}
use Rattle.guide_tree.specs.declared.slot.Condition.{Condition}
use Rattle.guide_tree.specs.Words.{Segment}
use Rattle.hub_kinds.specs.declared.fault.ElemFault.{ElemFault}
use Rattle.elem_rules.specs.Rows.{nth}
use Rattle.elem_rules.specs.Found.{up_to, read, text_at, texts_of, rows_found, extra_found, conditions_found, found}

up_to-suc : {A : Type 0} (f : ℕ → List A) (n : ℕ) → up_to f (n + 1) ≡ up_to f n ++ f (n + 1)
up_to-suc f n = rw add-one refl

pub up_to_more : {A : Type 0} (f : ℕ → List A) (n : ℕ) (start now next more : List A) → now ≡ start ++ up_to f n → next ≡ now ++ more
    → more ≡ f (n + 1) → next ≡ start ++ up_to f (n + 1)
up_to_more f n start now next more so_far step is =
    step ∙ ap (λ l. l ++ more) so_far ∙ append_assoc start (up_to f n) more ∙ ap (λ l. start ++ (up_to f n ++ l)) is
    ∙ ap (λ l. start ++ l) (sym (up_to-suc f n))

pub nth-more : {X : Type 0} (xs : List X) (n : ℕ) → nth xs (n + 1) ≡ slice_get xs n
nth-more xs n = rw add-one refl

-- the row at an index is the one with the next number
pub row_more : {X A : Type 0} (xs : List X) (g : X → List A) (n : ℕ) (x : X) → n < length xs → x ≡ get_or xs n x
    → option_map_or g (nth xs (n + 1)) [] ≡ g x
row_more xs g n x within is = ap (λ o. option_map_or g o []) (nth-more xs n ∙ slice_get-get_or xs n x within ∙ ap Some (sym is))

pub left_more : (all parts rest : List (List ℕ)) (n : ℕ) → parts ≡ drop n all → rest ≡ drop 1 parts → rest ≡ drop (n + 1) all
left_more all parts rest n so_far step = step ∙ ap (drop 1) so_far ∙ drop-drop 1 n all

pub text_more : (all parts : List (List ℕ)) (text : List ℕ) (n : ℕ) → parts ≡ drop n all → text ≡ get_or parts 0 []
    → text ≡ get_or all (n + 1 - 1) []
text_more all parts text n so_far is =
    let same : n + 0 ≡ n + 1 - 1 = omega arith in
    is ∙ ap (λ l. get_or l 0 []) so_far ∙ get_or-drop n all 0 [] ∙ ap (λ k. get_or all k []) same

pub text_read : (texts : List (Bor (List ℕ))) (position index : ℕ) (x : Bor (List ℕ)) → 1 ≤ position → index ≡ position - 1
    → index < length texts → x ≡ get_or texts index x → x.now ≡ text_at (read texts) position
text_read texts position index x from is within at =
    let next : position ≡ index + 1 = omega arith in
    let here = ap (λ p. nth (read texts) p) next ∙ nth-more (read texts) index ∙ slice_get-map (λ t. t.now) texts index
    ∙ ap (option_map (λ t. t.now)) (slice_get-get_or texts index x within ∙ ap Some (sym at)) in
    sym (ap (λ o. unwrap_or o []) here)

-- the three parts of the walk, one after another
pub found_joined : (delims given : Delims) (s : Segment) (slot : Slot) (rows : List Element) (texts : List (List ℕ))
    (conditions : List Condition) (start first second last : List ElemFault) → given ≡ delims → rows ≡ slot.elements
    → conditions ≡ slot.conditions → texts ≡ texts_of slot s → start ≡ [] → first ≡ start ++ rows_found given rows texts
    → second ≡ first ++ extra_found delims slot s → last ≡ second ++ conditions_found given rows conditions texts
    → last ≡ found delims s slot
found_joined delims given s slot rows texts conditions start first second last is_given are_rows are_conditions are_texts none a b c =
    let e1 : first ≡ rows_found delims slot.elements (texts_of slot s) =
    a ∙ ap (λ l. l ++ rows_found given rows texts) none
    ∙ ap (λ d. rows_found d rows texts) is_given ∙ ap (λ r. rows_found delims r texts) are_rows
    ∙ ap (λ t. rows_found delims slot.elements t) are_texts in
    let e3 : conditions_found given rows conditions texts ≡ conditions_found delims slot.elements slot.conditions (texts_of slot s) =
    ap (λ d. conditions_found d rows conditions texts) is_given ∙ ap (λ r. conditions_found delims r conditions texts) are_rows
    ∙ ap (λ k. conditions_found delims slot.elements k texts) are_conditions
    ∙ ap (λ t. conditions_found delims slot.elements slot.conditions t) are_texts in
    c ∙ ap (λ l. l ++ conditions_found given rows conditions texts) (b ∙ ap (λ l. l ++ extra_found delims slot s) e1)
    ∙ ap (λ l. (rows_found delims slot.elements (texts_of slot s) ++ extra_found delims slot s) ++ l) e3
    ∙ append_assoc (rows_found delims slot.elements (texts_of slot s)) (extra_found delims slot s)
    (conditions_found delims slot.elements slot.conditions (texts_of slot s))

-- numbers after the last one of which something is found add nothing
pub up_to_rest : {A : Type 0} (f : ℕ → List A) (n to : ℕ) → n ≤ to → ((k : ℕ) → n < k → f k ≡ []) → up_to f to ≡ up_to f n
up_to_rest f n zero le h = let e : n ≡ 0 = omega arith in ap (up_to f) (sym e)
up_to_rest f n (suc to) le h = elim (cases_eq n (suc to)) [
  | inl e ↦ ap (up_to f) (sym e)
  | inr e ↦ ap (λ l. up_to f to ++ l) (h (suc to) (omega (arith, e))) ∙ append-nil (up_to f to) ∙ up_to_rest f n to (omega (arith, e)) h
]

-- after the last part there are none
pub past_parts : (all : List (List ℕ)) (n k : ℕ) → drop n all ≡ [] → n < k → get_or all (k - 1) [] ≡ []
past_parts all n k done lt =
    let same : n + (k - 1 - n) ≡ k - 1 = omega arith in
    sym (get_or-drop n all (k - 1 - n) [] ∙ ap (λ i. get_or all i []) same) ∙ ap (λ l. get_or l (k - 1 - n) []) done
