-- A body of the small order that is derived, with its slots, and one that isn't: its PO1 is missing.
use Rattle.std.proofs.Common.{◌≡◌, List, [], ◌∷◌, ◌++◌, codes, map, Bool, true, false, ◌||◌, refl, sym, ◌∙◌, ap, arith}
use Rattle.std.specs.List.{list_any}
use Rattle.std.proofs.lemmas.List.Folds.{list_any-append}
use Rattle.guide_tree.specs.Words.{no_trees, tree, fits, Given, joined, IsPart, Derives, IsDerived}
use Rattle.std.proofs.lemmas.Bool.{or_left, or_right}
use Rattle.guide_law.proofs.WorkedGuide.{order, items, beg, item, alone}

abbrev whole : List Given
whole = (alone (codes "BEG"), beg) ∷ (alone (codes "PO1"), item) ∷ []

item_is_part : IsPart items ((alone (codes "PO1"), item) ∷ [])
item_is_part = (
  ((alone (codes "PO1"), item) ∷ []) ∷ [],
  [],
  omega arith,
  omega arith,
  ((alone (codes "PO1"), refl, refl), tt),
  refl,
  refl,
)

items_are_derived : Derives (tree items no_trees) ((alone (codes "PO1"), item) ∷ [])
items_are_derived =
    (((alone (codes "PO1"), item) ∷ []) ∷ [], [], omega arith, omega arith, (item_is_part, tt), refl, refl)

-- BEG, PO1
pub whole_is_derived : Derives order whole
whole_is_derived = (
  ((alone (codes "BEG"), beg) ∷ []) ∷ [],
  (alone (codes "PO1"), item) ∷ [],
  omega arith,
  omega arith,
  ((alone (codes "BEG"), refl, refl), tt),
  (
    [],
    (alone (codes "PO1"), item) ∷ [],
    omega arith,
    omega arith,
    tt,
    ([], (alone (codes "PO1"), item) ∷ [], omega arith, omega arith, tt, items_are_derived, refl),
    refl,
  ),
  refl,
)

-- whether a PO1 is among them
abbrev has_item : List Given → Bool
has_item xs = list_any (λ x. fits item x.0) xs

left_of : (xs ys : List Given) → has_item xs ≡ true → has_item (xs ++ ys) ≡ true
left_of xs ys h = list_any-append (λ x. fits item x.0) xs ys ∙ or_left (has_item xs) (has_item ys) h

right_of : (xs ys : List Given) → has_item ys ≡ true → has_item (xs ++ ys) ≡ true
right_of xs ys h = list_any-append (λ x. fits item x.0) xs ys ∙ or_right (has_item xs) (has_item ys) h

part_has : (part : List Given) → IsPart items part → has_item part ≡ true
part_has part ([], rest, least, most, all, d, e) = absurd (omega arith)
part_has part (x ∷ xs, rest, least, most, ((s, f, g), others), d, e) =
    let here : has_item x ≡ true = ap has_item g ∙ or_left (fits item s) false f in
    ap has_item e ∙ left_of (joined (x ∷ xs)) rest (left_of x (joined xs) here)

items_have : (xs : List Given) → Derives (tree items no_trees) xs → has_item xs ≡ true
items_have xs ([], rest, least, most, all, d, e) = absurd (omega arith)
items_have xs (part ∷ parts, rest, least, most, all, d, e) =
    ap has_item e ∙ left_of (joined (part ∷ parts)) rest (left_of part (joined parts) (part_has part all.0))

order_has : (xs : List Given) → Derives order xs → has_item xs ≡ true
order_has xs (a, behind_a, la, ma, aa, (b, behind_b, lb, mb, ab, (c, behind_c, lc, mc, ac, d, ec), eb), ea) =
    let h = items_have behind_c d in
    let at_c = ap has_item ec ∙ right_of (joined c) behind_c h in
    let at_b = ap has_item eb ∙ right_of (joined b) behind_b at_c in
    ap has_item ea ∙ right_of (joined a) behind_a at_b

has_item-segments : (xs : List Given) → has_item xs ≡ list_any (fits item) (map (λ x. x.0) xs)
has_item-segments [] = refl
has_item-segments (x ∷ xs) = ap (λ (b : Bool). fits item x.0 || b) (has_item-segments xs)

-- BEG alone
pub short_is_not_derived : IsDerived order (alone (codes "BEG") ∷ []) → ⊥
short_is_not_derived (xs, same, d) =
    let h = order_has xs d in
    let t : list_any (fits item) (alone (codes "BEG") ∷ []) ≡ true =
    ap (list_any (fits item)) (sym same) ∙ sym (has_item-segments xs) ∙ h in
    cc
