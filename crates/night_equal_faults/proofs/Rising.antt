-- Faults that rise are known by their keys, and two such lists of the same faults are one.
use Rattle.std.proofs.Common.{◌≡◌, inl, inr, ℕ, List, [], ◌∷◌, refl, sym, ap, subst, ◌∙◌}
use Rattle.std.specs.List.{AllByRecursion, Contains}
use Rattle.std.specs.Cmp.{IsTotalOrder}
use Rattle.std.specs.Cmp.Lexicographic.{on_texts}
use Rattle.std.specs.Ordering.{ordering_reverse}
use Rattle.std.specs.declared.cmp.Ordering.{Ordering}
use Rattle.std.specs.declared.cmp.Ordering.TheVariants.{Less, Equal, Greater}
use Rattle.std.proofs.lemmas.Cmp.{nat_list_cmp_total, tied_itself}
use Rattle.std.proofs.lemmas.Map.Keys.{sorted_head, sorted_tail}
use Rattle.hub_kinds.specs.declared.fault.Fault.{Fault}
use Rattle.hub_kinds.specs.Words.{AreRising, key_of, order_by}
use Rattle.guide_tree.proofs.ForAbove.{In}
use Rattle.guide_law.proofs.ForAbove.{contains_in}

abbrev order : Fault → Fault → Ordering
order = order_by key_of

total : IsTotalOrder order
total = on_texts key_of

pub pick : (P : Fault → Type 0) (xs : List Fault) (f : Fault) → AllByRecursion P xs → In xs f → P f
pick P [] f all h = absurd h
pick P (x ∷ xs) f all (inl e) = subst P e all.0
pick P (x ∷ xs) f all (inr h) = pick P xs f all.1 h

pub all_of : (P : Fault → Type 0) (xs : List Fault) → ((f : Fault) → In xs f → P f) → AllByRecursion P xs
all_of P [] each = tt
all_of P (x ∷ xs) each = (each x (inl refl), all_of P xs (λ f h. each f (inr h)))

later : (x : Fault) (xs : List Fault) (f : Fault) → AreRising (x ∷ xs) → In xs f → order x f ≡ Less
later x xs f up h = pick (λ y. order x y ≡ Less) xs f (sorted_head order x xs up) h

tied : (x y : Fault) → key_of x ≡ key_of y → order x y ≡ Equal
tied x y k = ap (λ (l : List ℕ). order_by {A = List ℕ} (λ m. m) l (key_of y)) k ∙ tied_itself nat_list_cmp_total (key_of y)

apart : (x y : Fault) → order x y ≡ Less → key_of x ≡ key_of y → x ≡ y
apart x y less k = let no : Less ≡ Equal = sym less ∙ tied x y k in cc

-- of one key there is one fault
keyed : (xs : List Fault) (x y : Fault) → AreRising xs → In xs x → In xs y → key_of x ≡ key_of y → x ≡ y
keyed [] x y up a b k = absurd a
keyed (z ∷ zs) x y up (inl a) (inl b) k = sym a ∙ b
keyed (z ∷ zs) x y up (inl a) (inr b) k = apart x y (subst (λ w. order w y ≡ Less) a (later z zs y up b)) k
keyed (z ∷ zs) x y up (inr a) (inl b) k = sym (apart y x (subst (λ w. order w x ≡ Less) b (later z zs x up a)) (sym k))
keyed (z ∷ zs) x y up (inr a) (inr b) k = keyed zs x y (sorted_tail order z zs up) a b k

pub one_of_key : (xs : List Fault) (x y : Fault) → AreRising xs → Contains xs x → Contains xs y → key_of x ≡ key_of y → x ≡ y
one_of_key xs x y up a b k = keyed xs x y up (contains_in xs x a) (contains_in xs y b) k

not_both : (x y : Fault) → order x y ≡ Less → order y x ≡ Less → x ≡ y
not_both x y a b = let no : Less ≡ Greater = sym b ∙ total.antisymm y x ∙ ap ordering_reverse a in cc

heads : (x y : Fault) (xs ys : List Fault) → AreRising (x ∷ xs) → AreRising (y ∷ ys) → In (y ∷ ys) x → In (x ∷ xs) y → x ≡ y
heads x y xs ys up vp (inl e) h = sym e
heads x y xs ys up vp (inr g) (inl e) = e
heads x y xs ys up vp (inr g) (inr h) = not_both x y (later x xs y up h) (later y ys x vp g)

-- a fault after the first isn't the first
tail : (x : Fault) (xs ys : List Fault) (f : Fault) → AreRising (x ∷ xs) → In xs f → In (x ∷ ys) f → In ys f
tail x xs ys f up h (inr g) = g
tail x xs ys f up h (inl e) =
    let less : order f f ≡ Less = subst (λ w. order w f ≡ Less) e (later x xs f up h) in
    let no : Less ≡ Equal = sym less ∙ tied f f refl in cc

pub same_rising : (xs ys : List Fault) → AreRising xs → AreRising ys → ((f : Fault) → In xs f → In ys f)
    → ((f : Fault) → In ys f → In xs f) → xs ≡ ys
same_rising [] [] up vp to from = refl
same_rising [] (y ∷ ys) up vp to from = absurd (from y (inl refl))
same_rising (x ∷ xs) [] up vp to from = absurd (to x (inl refl))
same_rising (x ∷ xs) (y ∷ ys) up vp to from =
    let e : x ≡ y = heads x y xs ys up vp (to x (inl refl)) (from y (inl refl)) in
    let tails : xs ≡ ys = same_rising xs ys (sorted_tail order x xs up) (sorted_tail order y ys vp)
    (λ f h. tail x xs ys f up h (subst (λ z. In (z ∷ ys) f) (sym e) (to f (inr h))))
    (λ f h. tail y ys xs f vp h (subst (λ z. In (z ∷ xs) f) e (from f (inr h)))) in
    ap (λ z. z ∷ xs) e ∙ ap (λ zs. y ∷ zs) tails
