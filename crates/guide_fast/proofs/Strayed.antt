-- The slots that are looked for by one of a segment's first elements hold one that it fits, where it fits some slot.
use Rattle.std.proofs.Common.{◌≡◌, ℕ, zero, suc, ◌+◌, List, [], ◌∷◌, Bool, true, false, ◌&&◌, ◌||◌, cond, drop}
use Rattle.std.proofs.Common.{refl, sym, ap, ◌∙◌, Option, Some, arith}
use Rattle.std.specs.Prelude.{slice_get}
use Rattle.std.specs.Str.{bytes_eq}
use Rattle.std.specs.List.{list_any}
use Rattle.guide_tree.specs.declared.slot.Slot.{Slot}
use Rattle.guide_tree.specs.Words.{Segment, element_at, fits}
use Rattle.guide_fast.specs.Keys.{slot_key, slot_keys, lent_reach, Reaches}
use Rattle.guide_fast.specs.Listed.{places_of}
use Rattle.guide_fast.specs.Slots.{fits_it, any_listed, lent_slots}
use Rattle.guide_fast.proofs.Keyed.{is_told, no_fit_told}
use denote.Ref.{Bor}

-- whether a segment fits some slot among those that are looked for by one of its first elements
abbrev pub any_told : Segment → (positions : ℕ) → List Slot → Bool
any_told s n slots = list_any (λ x. is_told s n (slot_key x) && fits x s) slots

got : (ns : List Slot) (k : ℕ) (m : Slot) (ms : List Slot) → drop k ns ≡ m ∷ ms → slice_get ns k ≡ Some m
got [] zero m ms e = cc
got [] (suc k) m ms e = cc
got (n ∷ ns) zero m ms e = let x : n ≡ m = cc in ap Some x
got (n ∷ ns) (suc k) m ms e = got ns k m ms e

rest : (ns : List Slot) (k : ℕ) (m : Slot) (ms : List Slot) → drop k ns ≡ m ∷ ms → drop (k + 1) ns ≡ ms
rest [] zero m ms e = cc
rest [] (suc k) m ms e = cc
rest (n ∷ ns) zero m ms e = let x : ns ≡ ms = cc in x
rest (n ∷ ns) (suc k) m ms e =
    let a : suc k + 1 ≡ suc (k + 1) = omega arith in ap (λ (i : ℕ). drop i (n ∷ ns)) a ∙ rest ns k m ms e

one_listed : (s : Segment) (ns : List Slot) (k : ℕ) (m : Slot) (b : Bool) (ks : List ℕ) (all : Bool) → slice_get ns k ≡ Some m
    → any_listed s ns ks ≡ all → any_listed s ns (cond b (k ∷ ks) ks) ≡ ((b && fits m s) || all)
one_listed s ns k m true ks all at e =
    ap (λ (o : Option Slot). fits_it s o || any_listed s ns ks) at ∙ ap (λ (b : Bool). fits m s || b) e
one_listed s ns k m false ks all at e = e

listed_any : (s : Segment) (ns : List Slot) (text : List ℕ) (k : ℕ) (ms : List Slot) → drop k ns ≡ ms
    → any_listed s ns (places_of text k (slot_keys ms)) ≡ list_any (λ x. bytes_eq (slot_key x) text && fits x s) ms
listed_any s ns text k [] e = refl
listed_any s ns text k (m ∷ ms) e =
    one_listed s ns k m (bytes_eq (slot_key m) text) (places_of text (k + 1) (slot_keys ms))
    (list_any (λ x. bytes_eq (slot_key x) text && fits x s) ms) (got ns k m ms e)
    (listed_any s ns text (k + 1) ms (rest ns k m ms e))

found : (s : Segment) (slots : List Slot) (n : ℕ) (text ks : List ℕ) → text ≡ element_at s n → ks ≡ places_of text 0 (slot_keys slots)
    → any_listed s slots ks ≡ list_any (λ x. bytes_eq (slot_key x) (element_at s n) && fits x s) slots
found s slots n text ks t e =
    ap (any_listed s slots) (e ∙ ap (λ (u : List ℕ). places_of u 0 (slot_keys slots)) t)
    ∙ listed_any s slots (element_at s n) 0 slots refl

mixed : (a b f x y : Bool) → (((a || b) && f) || (x || y)) ≡ (((a && f) || x) || ((b && f) || y))
mixed true b true x y = refl
mixed true true false x y = refl
mixed true false false x y = refl
mixed false true true true y = refl
mixed false true true false y = refl
mixed false true false x y = refl
mixed false false f x y = refl

any_more : (s : Segment) (n : ℕ) (slots : List Slot) → any_told s (suc n) slots
    ≡ (any_told s n slots || list_any (λ x. bytes_eq (slot_key x) (element_at s n) && fits x s) slots)
any_more s n [] = refl
any_more s n (x ∷ xs) =
    let a : Bool = is_told s n (slot_key x) in
    let b : Bool = bytes_eq (slot_key x) (element_at s n) in
    ap (λ (c : Bool). ((a || b) && fits x s) || c) (any_more s n xs)
    ∙ mixed a b (fits x s) (any_told s n xs) (list_any (λ y. bytes_eq (slot_key y) (element_at s n) && fits y s) xs)

pub none_more : (s : Segment) (slots : List Slot) (n : ℕ) (text ks : List ℕ) → text ≡ element_at s n
    → ks ≡ places_of text 0 (slot_keys slots) → any_told s n slots ≡ false → any_listed s slots ks ≡ false
    → any_told s (n + 1) slots ≡ false
none_more s slots n text ks t e before here =
    let next : n + 1 ≡ suc n = omega arith in
    ap (λ (m : ℕ). any_told s m slots) next ∙ any_more s n slots
    ∙ ap (λ (b : Bool). b || list_any (λ x. bytes_eq (slot_key x) (element_at s n) && fits x s) slots) before
    ∙ sym (found s slots n text ks t e) ∙ here

weaker : (p q : Slot → Bool) (xs : List Slot) → list_any (λ x. p x && q x) xs ≡ true → true ≡ list_any q xs
weaker p q [] e = sym e
weaker p q (x ∷ xs) e = by (p x) (q x) (list_any (λ y. p y && q y) xs) (list_any q xs) e (weaker p q xs) where
  by : (a b c d : Bool) → ((a && b) || c) ≡ true → (c ≡ true → true ≡ d) → true ≡ (b || d)
  by a true c d e h = refl
  by true false c d e h = h e
  by false false c d e h = h e

pub some_found : (s : Segment) (slots : List Slot) (n : ℕ) (text ks : List ℕ) → text ≡ element_at s n
    → ks ≡ places_of text 0 (slot_keys slots) → any_listed s slots ks ≡ true → true ≡ list_any (λ x. fits x s) slots
some_found s slots n text ks t e here =
    weaker (λ x. bytes_eq (slot_key x) (element_at s n)) (λ x. fits x s) slots (sym (found s slots n text ks t e) ∙ here)

pub none_told : (s : Segment) (slots : List Slot) → any_told s 0 slots ≡ false
none_told s [] = refl
none_told s (x ∷ xs) = none_told s xs

second : (a b : Bool) → (a ≡ false → b ≡ false) → (a && b) ≡ b
second true b e = refl
second false b e = sym (e refl)

pub all_told : (s : Segment) (n : ℕ) (slots : List (Bor Slot)) → Reaches lent_reach n slots
    → any_told s n (lent_slots slots) ≡ list_any (λ x. fits x s) (lent_slots slots)
all_told s n [] h = refl
all_told s n (x ∷ xs) h =
    ap (λ (b : Bool). b || any_told s n (lent_slots xs)) (second (is_told s n (slot_key x.now)) (fits x.now s) (no_fit_told s n x.now h.0))
    ∙ ap (λ (b : Bool). fits x.now s || b) (all_told s n xs h.1)
