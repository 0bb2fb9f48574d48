-- Faults that rise are known by which they are: two rising lists of the same faults are one; so a set is checked in one way.
use Rattle.std.proofs.Common.{◌≡◌, ◌↔◌, ◌⊎◌, inl, inr, ℕ, List, [], ◌∷◌, Option, refl, sym, ap, subst, ◌∙◌}
use Rattle.std.specs.List.{AllByRecursion, Contains}
use Rattle.std.specs.Cmp.{IsTotalOrder}
use Rattle.std.specs.Cmp.Lexicographic.{on_texts}
use Rattle.std.specs.Ordering.{ordering_reverse}
use Rattle.std.specs.declared.cmp.Ordering.{Ordering}
use Rattle.std.specs.declared.cmp.Ordering.TheVariants.{Less, Greater}
use Rattle.std.proofs.lemmas.Map.Keys.{sorted_head, sorted_tail}
use Rattle.hub_kinds.specs.declared.fault.Fault.{Fault}
use Rattle.hub_kinds.specs.Words.{AreRising, key_of, order_by}
use Rattle.hub_kinds.specs.declared.set_codes.SetCode.{SetCode}
use Rattle.x12_segs.specs.declared.set_span.SetSpan.{SetSpan}
use Rattle.guide_tree.specs.declared.rows.GuideRows.{GuideRows}
use Rattle.guide_tree.specs.Words.{GuideTree}
use Rattle.set_check.specs.Checked.{Checked, IsChecked, guide_in, parts_in, guide_tree_of}
use Rattle.set_check.specs.CheckedLaw.{IsOneCheck}
use Rattle.set_check.specs.SetFaults.{AreSetFaults, IsSetFault, codes_with}
use Rattle.set_check.specs.SetParts.{SetParts, set_parts}
use Rattle.guide_tree.proofs.ForAbove.{In}
use Rattle.guide_law.proofs.ForAbove.{in_contains, contains_in}

abbrev order : Fault → Fault → Ordering
order = order_by key_of

total : IsTotalOrder order
total = on_texts key_of

pick : (P : Fault → Type 0) (xs : List Fault) (f : Fault) → AllByRecursion P xs → In xs f → P f
pick P [] f all h = absurd h
pick P (x ∷ xs) f all (inl e) = subst P e all.0
pick P (x ∷ xs) f all (inr h) = pick P xs f all.1 h

-- no fault is before itself
not_itself : (x : Fault) → order x x ≡ Less → (X : Type 0) → X
not_itself x less X = let no : Less ≡ Greater = sym less ∙ total.antisymm x x ∙ ap ordering_reverse less in cc

not_both : (x y : Fault) → order x y ≡ Less → order y x ≡ Less → (X : Type 0) → X
not_both x y a b X = let no : Less ≡ Greater = sym b ∙ total.antisymm y x ∙ ap ordering_reverse a in cc

later : (x : Fault) (xs : List Fault) (f : Fault) → AreRising (x ∷ xs) → In xs f → order x f ≡ Less
later x xs f up h = pick (λ y. order x y ≡ Less) xs f (sorted_head order x xs up) h

heads : (x y : Fault) (xs ys : List Fault) → AreRising (x ∷ xs) → AreRising (y ∷ ys) → (y ≡ x) ⊎ In ys x → (x ≡ y) ⊎ In xs y → x ≡ y
heads x y xs ys up vp (inl e) h = sym e
heads x y xs ys up vp (inr g) (inl e) = e
heads x y xs ys up vp (inr g) (inr h) = not_both x y (later x xs y up h) (later y ys x vp g) (x ≡ y)

behind : (x : Fault) (xs : List Fault) (f : Fault) → AreRising (x ∷ xs) → In xs f → (ys : List Fault) → (x ≡ f) ⊎ In ys f → In ys f
behind x xs f up h ys (inl e) = not_itself x (subst (λ z. order x z ≡ Less) (sym e) (later x xs f up h)) (In ys f)
behind x xs f up h ys (inr g) = g

pub same_rising : (xs ys : List Fault) → AreRising xs → AreRising ys → ((f : Fault) → In xs f → In ys f)
    → ((f : Fault) → In ys f → In xs f) → xs ≡ ys
same_rising [] [] up vp to from = refl
same_rising [] (y ∷ ys) up vp to from = absurd (from y (inl refl))
same_rising (x ∷ xs) [] up vp to from = absurd (to x (inl refl))
same_rising (x ∷ xs) (y ∷ ys) up vp to from =
    let e : x ≡ y = heads x y xs ys up vp (to x (inl refl)) (from y (inl refl)) in
    let tails : xs ≡ ys = same_rising xs ys (sorted_tail order x xs up) (sorted_tail order y ys vp)
    (λ f h. behind x xs f up h ys (subst (λ z. (z ≡ f) ⊎ In ys f) (sym e) (to f (inr h))))
    (λ f h. behind y ys f vp h xs (subst (λ z. (z ≡ f) ⊎ In xs f) e (from f (inr h)))) in
    ap (λ z. z ∷ xs) e ∙ ap (λ zs. y ∷ zs) tails

pub same_faults : (xs ys : List Fault) (P : Fault → Type 0) → AreRising xs → AreRising ys → ((f : Fault) → Contains xs f ↔ P f)
    → ((f : Fault) → Contains ys f ↔ P f) → xs ≡ ys
same_faults xs ys P up vp has have =
    same_rising xs ys up vp
    (λ f h. contains_in ys f ((have f).1 ((has f).0 (in_contains xs f h))))
    (λ f h. contains_in xs f ((has f).1 ((have f).0 (in_contains ys f h))))

alike : (c d : Checked) → c.text ≡ d.text → c.span ≡ d.span → c.guide ≡ d.guide → c.faults ≡ d.faults → c.codes ≡ d.codes → c ≡ d
alike c d text span guide faults codes =
    ap (λ (t : List ℕ). let x : Checked = record { text = t; span = c.span; guide = c.guide; faults = c.faults; codes = c.codes } in x) text
    ∙ ap (λ (s : SetSpan). let x : Checked =
    record { text = d.text; span = s; guide = c.guide; faults = c.faults; codes = c.codes } in x) span
    ∙ ap (λ (g : Option GuideRows). let x : Checked =
    record { text = d.text; span = d.span; guide = g; faults = c.faults; codes = c.codes } in x) guide
    ∙ ap (λ (f : List Fault). let x : Checked =
    record { text = d.text; span = d.span; guide = d.guide; faults = f; codes = c.codes } in x) faults
    ∙ ap (λ (k : List SetCode). let x : Checked =
    record { text = d.text; span = d.span; guide = d.guide; faults = d.faults; codes = k } in x) codes

pub one_check : (c d : Checked) → IsChecked c → IsChecked d → IsOneCheck c d
one_check c d is was text span guide =
    let guides : guide_in c ≡ guide_in d = ap guide_tree_of guide in
    let parts : parts_in c ≡ parts_in d =
    ap (λ (t : List ℕ). set_parts t c.span) text ∙ ap (λ (s : SetSpan). set_parts d.text s) span in
    let other : AreSetFaults (guide_in c) (parts_in c) d.faults =
    subst (λ (g : Option GuideTree). AreSetFaults g (parts_in c) d.faults) (sym guides)
    (subst (λ (p : SetParts). AreSetFaults (guide_in d) p d.faults) (sym parts) was.faults) in
    let faults : c.faults ≡ d.faults =
    same_faults c.faults d.faults (IsSetFault (guide_in c) (parts_in c)) is.rising was.rising is.faults other in
    let codes : c.codes ≡ d.codes = is.codes
    ∙ ap (λ (g : Option GuideTree). codes_with g (parts_in c) c.faults) guides
    ∙ ap (λ (p : SetParts). codes_with (guide_in d) p c.faults) parts
    ∙ ap (λ (f : List Fault). codes_with (guide_in d) (parts_in d) f) faults ∙ sym was.codes in
    alike c d text span guide faults codes
