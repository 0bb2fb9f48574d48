-- Names that differ stand at places that differ.
use Rattle.std.proofs.Common.{◌≡◌, ◌≢◌, ℕ, ◌+◌, ◌<◌, ◌≤◌, Bool, true, false, List, [], ◌∷◌, All, cond, refl, sym, ap, ◌∙◌, arith}
use Rattle.std.proofs.Common.{Option, Some, None}
use Rattle.std.specs.List.{list_any}
use Rattle.std.specs.Str.{bytes_eq}
use Rattle.std.proofs.lemmas.Bool.{false≢true, or_parts}
use Rattle.std.proofs.lemmas.Cmp.{nat_list_eq_equiv}
use Rattle.std.proofs.lemmas.List.Elements.{All-nil, All-cons}
use Rattle.std.proofs.lemmas.List.Kept.{AllPairs-cons}
use Rattle.std.proofs.lemmas.Map.Text.{is_eq-slice_cmp}
use Rattle.std.proofs.lemmas.Slice.Eq.{bytes_eq-Decides}
use Rattle.hub_kinds.specs.Words.{has_same_key, has_twice}
use Rattle.partner_setup.specs.Names.{and_some, place_from, place_of, places_of_texts}
use Rattle.partner_setup.specs.SetupFaults.{by_name}
use Rattle.partner_setup.specs.Sound.{AreApart}

at_or_behind : (b : Bool) (n k : ℕ) (o : Option ℕ) → (o ≡ Some k → n ≤ k) → cond b (Some n) o ≡ Some k → n ≤ k
at_or_behind true n k o h e = let is : n ≡ k = cc in omega (arith, is)
at_or_behind false n k o h e = h e

place_above : (n : ℕ) (texts : List (List ℕ)) (text : List ℕ) (k : ℕ) → place_from n texts text ≡ Some k → n ≤ k
place_above n [] text k e = absurd cc
place_above n (t ∷ ts) text k e = at_or_behind (bytes_eq t text) n k (place_from (n + 1) ts text)
    (λ later. let l = place_above (n + 1) ts text k later in omega (arith, l)) e

by_first : (b c : Bool) (n k : ℕ) (o q : Option ℕ) (x y : List ℕ) → (b ≡ true → c ≡ true → x ≡ y) → (o ≡ Some k → n < k)
    → (q ≡ Some k → n < k) → (o ≡ Some k → q ≡ Some k → x ≡ y) → cond b (Some n) o ≡ Some k → cond c (Some n) q ≡ Some k → x ≡ y
by_first true true n k o q x y both l m rest e f = both refl refl
by_first true false n k o q x y both l m rest e f = let is : n ≡ k = cc in let less = m f in absurd (omega (arith, is, less))
by_first false true n k o q x y both l m rest e f = let is : n ≡ k = cc in let less = l e in absurd (omega (arith, is, less))
by_first false false n k o q x y both l m rest e f = rest e f

-- what is found at one place is one text
one_text : (n : ℕ) (texts : List (List ℕ)) (a b : List ℕ) (k : ℕ) → place_from n texts a ≡ Some k → place_from n texts b ≡ Some k
    → a ≡ b
one_text n [] a b k e f = absurd cc
one_text n (t ∷ ts) a b k e f = by_first (bytes_eq t a) (bytes_eq t b) n k (place_from (n + 1) ts a) (place_from (n + 1) ts b) a b
    (λ x y. sym ((bytes_eq-Decides t a).0 x) ∙ (bytes_eq-Decides t b).0 y)
    (λ x. let l = place_above (n + 1) ts a k x in omega (arith, l))
    (λ x. let l = place_above (n + 1) ts b k x in omega (arith, l))
    (one_text (n + 1) ts a b k) e f

same_name : (a b : List ℕ) → a ≡ b → has_same_key by_name a b ≡ true
same_name a b e =
    ap (λ (x : List ℕ). has_same_key by_name a x) (sym e)
    ∙ (is_eq-slice_cmp (by_name a) (by_name a) ∙ nat_list_eq_equiv.refl (by_name a))

one_more : (k : ℕ) (o : Option ℕ) (places : List ℕ) → ((m : ℕ) → o ≡ Some m → k ≡ m → ⊥) → All (λ (q : ℕ). k ≢ q) places
    → All (λ (q : ℕ). k ≢ q) (and_some o places)
one_more k None places h rest = rest
one_more k (Some m) places h rest = All-cons (λ (q : ℕ). k ≢ q) m places (h m refl) rest

-- the place of a name is none of those of other names
others_apart : (texts names : List (List ℕ)) (a : List ℕ) (k : ℕ) → place_of texts a ≡ Some k
    → list_any (has_same_key by_name a) names ≡ false → All (λ (q : ℕ). k ≢ q) (places_of_texts texts names)
others_apart texts [] a k e h = All-nil (λ (q : ℕ). k ≢ q)
others_apart texts (b ∷ names) a k e h =
    let parts = or_parts (has_same_key by_name a b) (list_any (has_same_key by_name a) names) h in
    one_more k (place_of texts b) (places_of_texts texts names)
    (λ m f same. false≢true (sym parts.0 ∙ same_name a b (one_text 0 texts a b k e (f ∙ ap (λ (n : ℕ). Some n) (sym same)))))
    (others_apart texts names a k e parts.1)

and_apart : (texts names : List (List ℕ)) (a : List ℕ) (o : Option ℕ) → place_of texts a ≡ o
    → list_any (has_same_key by_name a) names ≡ false → AreApart (places_of_texts texts names)
    → AreApart (and_some o (places_of_texts texts names))
and_apart texts names a None e h rest = rest
and_apart texts names a (Some k) e h rest =
    AllPairs-cons (λ (p q : ℕ). p ≢ q) k (places_of_texts texts names) (others_apart texts names a k e h) rest

pub none_apart : AreApart []
none_apart = λ i j d lt within. absurd (omega arith)

-- names of which none stands twice
pub places_apart : (texts names : List (List ℕ)) → has_twice by_name names ≡ false → AreApart (places_of_texts texts names)
places_apart texts [] h = none_apart
places_apart texts (a ∷ names) h =
    let parts = or_parts (list_any (has_same_key by_name a) names) (has_twice by_name names) h in
    and_apart texts names a (place_of texts a) refl parts.0 (places_apart texts names parts.1)
