-- One text more is counted.
use Rattle.std.proofs.Common.{◌≡◌, ℕ, ◌+◌, ◌<◌, Bool, true, false, ◌||◌, cond, List, [], ◌∷◌, ◌++◌, Option, Some, ◌∙◌, ap, drop, get_or}
use Rattle.std.proofs.Common.{length, map, refl, sym, take, arith}
use Rattle.std.specs.Prelude.{is_some, reverse}
use Rattle.std.specs.Borrow.{Bor}
use Rattle.std.specs.BTreeMap.{BTreeMap, UpdatesBy, get_by}
use Rattle.std.specs.Cmp.Lexicographic.{slice_cmp}
use Rattle.std.specs.Ordering.{nat_cmp}
use Rattle.std.specs.Str.{bytes_eq}
use Rattle.std.proofs.lemmas.List.{drop_more, map-append, reverse-append, take_more}
use Rattle.std.proofs.lemmas.Map.Text.{btree_map_updates_str}
use Rattle.hub_kinds.specs.Words.{contains_text}
use Rattle.night_review.specs.Count.{different}

texts : List (Bor (List ℕ)) → List (List ℕ)
texts lent = map (λ (t : Bor (List ℕ)). t.now) lent

pub taken_back : (lent : List (Bor (List ℕ))) (i : ℕ) (text d : Bor (List ℕ)) → i < length lent → text ≡ get_or lent i d
    → reverse (map (λ (t : Bor (List ℕ)). t.now) (take (i + 1) lent))
    ≡ text.now ∷ reverse (map (λ (t : Bor (List ℕ)). t.now) (take i lent))
unfolding texts
taken_back lent i text d low is =
    ap (λ (l : List (Bor (List ℕ))). reverse (texts l))
    (take_more lent i d low ∙ ap (λ (t : Bor (List ℕ)). take i lent ++ t ∷ []) (sym is))
    ∙ ap (λ (l : List (List ℕ)). reverse l) (map-append (λ (t : Bor (List ℕ)). t.now) (take i lent) (text ∷ []))
    ∙ reverse-append (texts (take i lent)) (text.now ∷ [])

either : (b : Bool) (value : Bor (List ℕ)) (old : Option (Bor (List ℕ))) → is_some (cond b (Some value) old) ≡ (b || is_some old)
either true value old = refl
either false value old = refl

pub seen_more : (old new : BTreeMap (Bor (List ℕ)) (Bor (List ℕ))) (text : List ℕ) (value : Bor (List ℕ)) (seen : List (List ℕ))
    → UpdatesBy (λ x y. slice_cmp nat_cmp x.now y.now) (λ k. slice_cmp nat_cmp text k.now) old new (Some value)
    → ((q : List ℕ) → is_some (get_by (λ k. slice_cmp nat_cmp q k.now) old) ≡ contains_text seen q)
    → (q : List ℕ) → is_some (get_by (λ k. slice_cmp nat_cmp q k.now) new) ≡ contains_text (text ∷ seen) q
seen_more old new text value seen updates so_far q =
    ap (λ (o : Option (Bor (List ℕ))). is_some o) (btree_map_updates_str text old new (Some value) updates q)
    ∙ either (bytes_eq text q) value (get_by (λ k. slice_cmp nat_cmp q k.now) old)
    ∙ ap (λ (b : Bool). bytes_eq text q || b) (so_far q)

-- what is counted, with one text more
pub counted_more : (found more : ℕ) (seen : List (List ℕ)) (lent : List (Bor (List ℕ))) (i : ℕ) (text d : Bor (List ℕ)) (all : ℕ)
    (was : Bool) → i < length lent → text ≡ get_or lent i d → was ≡ contains_text seen text.now
    → more ≡ found + cond was 0 1
    → found + different seen (map (λ (t : Bor (List ℕ)). t.now) (drop i lent)) ≡ all
    → more + different (text.now ∷ seen) (map (λ (t : Bor (List ℕ)). t.now) (drop (i + 1) lent)) ≡ all
unfolding texts
counted_more found more seen lent i text d all was low is seen_is adds so_far =
    let rest : ℕ = different (text.now ∷ seen) (texts (drop (i + 1) lent)) in
    let left : texts (drop i lent) ≡ text.now ∷ texts (drop (i + 1) lent) =
    ap texts (drop_more lent i d low ∙ ap (λ (t : Bor (List ℕ)). t ∷ drop (i + 1) lent) (sym is)) in
    let here : different seen (texts (drop i lent)) ≡ cond was 0 1 + rest =
    ap (different seen) left ∙ ap (λ (b : Bool). cond b 0 1 + rest) (sym seen_is) in
    omega (arith, adds, here, so_far)
