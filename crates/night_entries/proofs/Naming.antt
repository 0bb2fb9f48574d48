-- The map of names with one more item.
use Rattle.std.proofs.Common.{◌≡◌, ℕ, Bool, true, false, cond, List, [], ◌∷◌, ◌++◌, Option, Some, None, option_map, refl, sym, ap, ◌∙◌}
use Rattle.std.proofs.Common.{◌+◌, ◌<◌}
use Rattle.std.proofs.Common.{length, take, get_or}
use Rattle.std.specs.Option.{option_or}
use Rattle.std.specs.Str.{bytes_eq}
use Rattle.std.specs.BTreeMap.{BTreeMap, UpdatesBy, get_by}
use Rattle.std.specs.Cmp.Lexicographic.{slice_cmp}
use Rattle.std.specs.Ordering.{nat_cmp}
use Rattle.std.proofs.lemmas.List.{take_more}
use Rattle.std.proofs.lemmas.Map.Text.{btree_map_updates_str}
use Rattle.night_entries.specs.Named.{found_in, named}
use denote.Ref.{Bor}

or_none : {X : Type 0} (o : Option X) → option_or o None ≡ o
or_none None = refl
or_none (Some x) = refl

or_or : {X : Type 0} (a b c : Option X) → option_or (option_or a b) c ≡ option_or a (option_or b c)
or_or None b c = refl
or_or (Some a) b c = refl

one_more : {X : Type 0} (of : X → List ℕ) (q : List ℕ) (xs : List X) (x : X)
    → named of q (xs ++ x ∷ []) ≡ option_or (cond (bytes_eq (of x) q) (Some x) None) (named of q xs)
one_more of q [] x = sym (or_none (cond (bytes_eq (of x) q) (Some x) None))
one_more {X} of q (y ∷ xs) x =
    ap (λ (o : Option X). option_or o (cond (bytes_eq (of y) q) (Some y) None)) (one_more of q xs x)
    ∙ or_or (cond (bytes_eq (of x) q) (Some x) None) (named of q xs) (cond (bytes_eq (of y) q) (Some y) None)

put : {X : Type 0} (b : Bool) (value : Bor X) (o : Option (Bor X))
    → option_map (λ (v : Bor X). v.now) (cond b (Some value) o)
    ≡ option_or (cond b (Some value.now) None) (option_map (λ (v : Bor X). v.now) o)
put true value o = refl
put false value o = refl

pub named_more : {X : Type 0} (of : X → List ℕ) (old new : BTreeMap (Bor (List ℕ)) (Bor X)) (value : Bor X) (items : List X) (i : ℕ)
    (key : List ℕ)
    → i < length items → value.now ≡ get_or items i value.now → key ≡ of value.now
    → UpdatesBy (λ x y. slice_cmp nat_cmp x.now y.now) (λ k. slice_cmp nat_cmp key k.now) old new (Some value)
    → ((q : List ℕ) → found_in old q ≡ named of q (take i items))
    → (q : List ℕ) → found_in new q ≡ named of q (take (i + 1) items)
named_more {X} of old new value items i key low is same updates so_far q =
    ap (λ (o : Option (Bor X)). option_map (λ (v : Bor X). v.now) o) (btree_map_updates_str key old new (Some value) updates q)
    ∙ put (bytes_eq key q) value (get_by (λ k. slice_cmp nat_cmp q k.now) old)
    ∙ ap (option_or (cond (bytes_eq key q) (Some value.now) None)) (so_far q)
    ∙ ap (λ (k : List ℕ). option_or (cond (bytes_eq k q) (Some value.now) None) (named of q (take i items))) same
    ∙ sym (one_more of q (take i items) value.now)
    ∙ ap (named of q) (sym (take_more items i value.now low ∙ ap (λ (x : X). take i items ++ x ∷ []) (sym is)))
