-- The number of what stands before the first separator, by the first four bytes.
use Rattle.std.proofs.Common.{◌≡◌, ℕ, List, [], ◌∷◌, Bool, true, false, cond, get_or, nat_eq, refl, sym, ap, ◌∙◌}
use Rattle.std.specs.List.{slice_split, onto_first}
use Rattle.std.proofs.lemmas.Bool.{ne_eqb}
use Rattle.std.proofs.lemmas.Bool.Decides.{Decides-eqb}
use Rattle.x12_segs.specs.Words.{parts, part_or_empty}
use Rattle.elem_rules.specs.Flat.{packed}
use Rattle.guide_fast.specs.IdNumber.{id_number}

abbrev before : (separator : ℕ) → List ℕ → List ℕ
before e [] = []
before e (x ∷ xs) = cond (nat_eq x e) [] (x ∷ before e xs)

put_first : (b : Bool) (x : ℕ) (list : List (List ℕ)) (first : List ℕ) → get_or list 0 [] ≡ first
    → get_or (cond b ([] ∷ list) (onto_first x list)) 0 [] ≡ cond b [] (x ∷ first)
put_first true x list first e = refl
put_first false x [] first e = ap (λ (l : List ℕ). x ∷ l) e
put_first false x (part ∷ list) first e = ap (λ (l : List ℕ). x ∷ l) e

first_part : (e : ℕ) (xs : List ℕ) → part_or_empty (parts e xs) 0 ≡ before e xs
first_part e [] = refl
first_part e (x ∷ xs) =
    put_first (nat_eq x e) x (slice_split (λ b. nat_eq b e) xs) (before e xs) (first_part e xs)

ends : (e x : ℕ) (xs : List ℕ) → x ≡ e → before e (x ∷ xs) ≡ []
ends e x xs h = ap (λ (b : Bool). cond b [] (x ∷ before e xs)) ((Decides-eqb x e).1 h)

goes_on : (e x : ℕ) (xs : List ℕ) → (x ≡ e → ⊥) → before e (x ∷ xs) ≡ x ∷ before e xs
goes_on e x xs h = ap (λ (b : Bool). cond b [] (x ∷ before e xs)) (ne_eqb x e h)

none : (e : ℕ) (xs : List ℕ) → get_or xs 0 e ≡ e → id_number (before e xs) ≡ 0
none e [] h = refl
none e (x ∷ xs) h = ap id_number (ends e x xs h)

one : (e : ℕ) (xs : List ℕ) → (get_or xs 0 e ≡ e → ⊥) → get_or xs 1 e ≡ e → id_number (before e xs) ≡ packed 1 (get_or xs 0 e) 0 0
one e [] p q = absurd (p refl)
one e (x ∷ []) p q = ap id_number (goes_on e x [] p)
one e (x ∷ y ∷ ys) p q = ap id_number (goes_on e x (y ∷ ys) p ∙ ap (λ (l : List ℕ). x ∷ l) (ends e y ys q))

two : (e : ℕ) (xs : List ℕ) → (get_or xs 0 e ≡ e → ⊥) → (get_or xs 1 e ≡ e → ⊥) → get_or xs 2 e ≡ e
    → id_number (before e xs) ≡ packed 2 (get_or xs 0 e) (get_or xs 1 e) 0
two e [] p q r = absurd (p refl)
two e (x ∷ []) p q r = absurd (q refl)
two e (x ∷ y ∷ []) p q r = ap id_number (goes_on e x (y ∷ []) p ∙ ap (λ (l : List ℕ). x ∷ l) (goes_on e y [] q))
two e (x ∷ y ∷ z ∷ zs) p q r =
    ap id_number (goes_on e x (y ∷ z ∷ zs) p
    ∙ ap (λ (l : List ℕ). x ∷ l) (goes_on e y (z ∷ zs) q ∙ ap (λ (l : List ℕ). y ∷ l) (ends e z zs r)))

three : (e : ℕ) (xs : List ℕ) → (get_or xs 0 e ≡ e → ⊥) → (get_or xs 1 e ≡ e → ⊥) → (get_or xs 2 e ≡ e → ⊥) → get_or xs 3 e ≡ e
    → id_number (before e xs) ≡ packed 3 (get_or xs 0 e) (get_or xs 1 e) (get_or xs 2 e)
three e [] p q r s = absurd (p refl)
three e (x ∷ []) p q r s = absurd (q refl)
three e (x ∷ y ∷ []) p q r s = absurd (r refl)
three e (x ∷ y ∷ z ∷ []) p q r s =
    ap id_number (goes_on e x (y ∷ z ∷ []) p
    ∙ ap (λ (l : List ℕ). x ∷ l) (goes_on e y (z ∷ []) q ∙ ap (λ (l : List ℕ). y ∷ l) (goes_on e z [] r)))
three e (x ∷ y ∷ z ∷ w ∷ ws) p q r s =
    ap id_number (goes_on e x (y ∷ z ∷ w ∷ ws) p
    ∙ ap (λ (l : List ℕ). x ∷ l) (goes_on e y (z ∷ w ∷ ws) q
    ∙ ap (λ (l : List ℕ). y ∷ l) (goes_on e z (w ∷ ws) r ∙ ap (λ (l : List ℕ). z ∷ l) (ends e w ws s))))

more : (e : ℕ) (xs : List ℕ) → (get_or xs 0 e ≡ e → ⊥) → (get_or xs 1 e ≡ e → ⊥) → (get_or xs 2 e ≡ e → ⊥)
    → (get_or xs 3 e ≡ e → ⊥) → id_number (before e xs) ≡ 0
more e [] p q r s = absurd (p refl)
more e (x ∷ []) p q r s = absurd (q refl)
more e (x ∷ y ∷ []) p q r s = absurd (r refl)
more e (x ∷ y ∷ z ∷ []) p q r s = absurd (s refl)
more e (x ∷ y ∷ z ∷ w ∷ ws) p q r s =
    ap id_number (goes_on e x (y ∷ z ∷ w ∷ ws) p
    ∙ ap (λ (l : List ℕ). x ∷ l) (goes_on e y (z ∷ w ∷ ws) q
    ∙ ap (λ (l : List ℕ). y ∷ l) (goes_on e z (w ∷ ws) r ∙ ap (λ (l : List ℕ). z ∷ l) (goes_on e w ws s))))

-- the same of a number that was made so
made : (e : ℕ) (xs : List ℕ) (n m : ℕ) → n ≡ m → id_number (before e xs) ≡ m → n ≡ id_number (part_or_empty (parts e xs) 0)
made e xs n m is h = is ∙ sym h ∙ ap id_number (sym (first_part e xs))

pub of_none : (e : ℕ) (xs : List ℕ) (a : ℕ) → a ≡ get_or xs 0 e → a ≡ e → 0 ≡ id_number (part_or_empty (parts e xs) 0)
of_none e xs a f p = made e xs 0 0 refl (none e xs (sym f ∙ p))

pub of_one : (e : ℕ) (xs : List ℕ) (a b n : ℕ) → a ≡ get_or xs 0 e → b ≡ get_or xs 1 e → (a ≡ e → ⊥) → b ≡ e
    → n ≡ packed 1 a 0 0 → n ≡ id_number (part_or_empty (parts e xs) 0)
of_one e xs a b n f g p q is =
    made e xs n (packed 1 (get_or xs 0 e) 0 0) (is ∙ ap (λ (k : ℕ). packed 1 k 0 0) f) (one e xs (λ h. p (f ∙ h)) (sym g ∙ q))

pub of_two : (e : ℕ) (xs : List ℕ) (a b c n : ℕ) → a ≡ get_or xs 0 e → b ≡ get_or xs 1 e → c ≡ get_or xs 2 e → (a ≡ e → ⊥)
    → (b ≡ e → ⊥) → c ≡ e → n ≡ packed 2 a b 0 → n ≡ id_number (part_or_empty (parts e xs) 0)
of_two e xs a b c n f g i p q r is =
    made e xs n (packed 2 (get_or xs 0 e) (get_or xs 1 e) 0)
    (is ∙ ap (λ (k : ℕ). packed 2 k b 0) f ∙ ap (λ (k : ℕ). packed 2 (get_or xs 0 e) k 0) g)
    (two e xs (λ h. p (f ∙ h)) (λ h. q (g ∙ h)) (sym i ∙ r))

pub of_three : (e : ℕ) (xs : List ℕ) (a b c d n : ℕ) → a ≡ get_or xs 0 e → b ≡ get_or xs 1 e → c ≡ get_or xs 2 e → d ≡ get_or xs 3 e
    → (a ≡ e → ⊥) → (b ≡ e → ⊥) → (c ≡ e → ⊥) → d ≡ e → n ≡ packed 3 a b c → n ≡ id_number (part_or_empty (parts e xs) 0)
of_three e xs a b c d n f g i j p q r s is =
    made e xs n (packed 3 (get_or xs 0 e) (get_or xs 1 e) (get_or xs 2 e))
    (is ∙ ap (λ (k : ℕ). packed 3 k b c) f ∙ ap (λ (k : ℕ). packed 3 (get_or xs 0 e) k c) g
    ∙ ap (packed 3 (get_or xs 0 e) (get_or xs 1 e)) i)
    (three e xs (λ h. p (f ∙ h)) (λ h. q (g ∙ h)) (λ h. r (i ∙ h)) (sym j ∙ s))

pub of_more : (e : ℕ) (xs : List ℕ) (a b c d : ℕ) → a ≡ get_or xs 0 e → b ≡ get_or xs 1 e → c ≡ get_or xs 2 e → d ≡ get_or xs 3 e
    → (a ≡ e → ⊥) → (b ≡ e → ⊥) → (c ≡ e → ⊥) → (d ≡ e → ⊥) → 0 ≡ id_number (part_or_empty (parts e xs) 0)
of_more e xs a b c d f g i j p q r s =
    made e xs 0 0 refl (more e xs (λ h. p (f ∙ h)) (λ h. q (g ∙ h)) (λ h. r (i ∙ h)) (λ h. s (j ∙ h)))
