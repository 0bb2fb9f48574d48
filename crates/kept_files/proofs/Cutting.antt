-- The interchange that a key begins with, and keys of one interchange.
use Rattle.std.proofs.Common.{◌≡◌, ◌∙◌, ◌≤◌, ◌+◌, ◌-◌, ℕ, Bool, true, false, cond, List, [], ◌∷◌, refl, sym, ap, arith}
use Rattle.std.proofs.Common.{drop, map, take}
use Rattle.std.specs.Prelude.{slice_range}
use Rattle.std.specs.List.{Contains, dedup, dedup_from}
use Rattle.std.specs.Cmp.{IsEquivalence}
use Rattle.std.proofs.lemmas.List.{drop-take, get_or-map, length-map, take-take}
use Rattle.std.proofs.lemmas.List.Kept.{Any-dedup}
use Rattle.std.proofs.lemmas.Slice.Eq.{bytes_eq-Decides}
use Rattle.std.specs.Cmp.Lexicographic.{nat_list_eq_equiv}
use Rattle.night_record.specs.declared.taken.TakenInterchange.{TakenInterchange}
use Rattle.kept_files.specs.Taken.{interchange_in, is_of_one, taken_of}
use denote.Ref.{Bor}

-- what is kept of lent texts is what is kept of the texts
keeps : {X Y : Type 0} (f : X → Y) (b : Bool) (u v : List X) → map f (cond b u v) ≡ cond b (map f u) (map f v)
keeps f true u v = refl
keeps f false u v = refl

read_dedup_from : {X Y : Type 0} (f : X → Y) (same : Y → Y → Bool) (k : X) (xs : List X)
    → map f (dedup_from (λ x y. same (f x) (f y)) k xs) ≡ dedup_from same (f k) (map f xs)
read_dedup_from f same k [] = refl
read_dedup_from f same k (x ∷ xs) =
    keeps f (same (f x) (f k)) (dedup_from (λ x y. same (f x) (f y)) k xs) (k ∷ dedup_from (λ x y. same (f x) (f y)) x xs)
    ∙ λ i. cond (same (f x) (f k)) (read_dedup_from f same k xs i) (f k ∷ read_dedup_from f same x xs i)

pub read_dedup : {X Y : Type 0} (f : X → Y) (same : Y → Y → Bool) (xs : List X)
    → map f (dedup (λ x y. same (f x) (f y)) xs) ≡ dedup same (map f xs)
read_dedup f same [] = refl
read_dedup f same (x ∷ xs) = read_dedup_from f same x xs

pub map_read : {X : Type 0} (f : List ℕ → X) (texts : List (Bor (List ℕ)))
    → map (λ text. f text.now) texts ≡ map f (map (λ text. text.now) texts)
map_read f [] = refl
map_read f (text ∷ texts) = ap (λ l. f text.now ∷ l) (map_read f texts)

-- a part of a key, which its first 43 bytes have
part_of : (key : List ℕ) (begin end : ℕ) → begin ≤ end → end ≤ 43 → slice_range key begin end ≡ slice_range (take 43 key) begin end
part_of key begin end low high =
    let whole : begin + (43 - begin) ≡ 43 = omega (arith, low, high) in
    sym (ap (λ n. take (end - begin) (drop begin (take n key))) (sym whole) ∙ ap (take (end - begin)) (drop-take begin (43 - begin) key)
    ∙ take-take (end - begin) (43 - begin) (drop begin key) (omega (arith, low, high)))

abbrev made : (a b c d e : List ℕ) → TakenInterchange
made a b c d e = record { isa05 = a; isa06 = b; isa07 = c; isa08 = d; isa13 = e }

made_same : (a b c d e f g h j k : List ℕ) → a ≡ f → b ≡ g → c ≡ h → d ≡ j → e ≡ k → made a b c d e ≡ made f g h j k
made_same a b c d e f g h j k one two three four five = λ i. made (one i) (two i) (three i) (four i) (five i)

first_43 : (key : List ℕ) → interchange_in key ≡ interchange_in (take 43 key)
first_43 key =
    made_same _ _ _ _ _ _ _ _ _ _ (part_of key 0 2 (omega arith) (omega arith)) (part_of key 2 17 (omega arith) (omega arith))
    (part_of key 17 19 (omega arith) (omega arith)) (part_of key 19 34 (omega arith) (omega arith))
    (part_of key 34 43 (omega arith) (omega arith))

one_interchange : (key other : List ℕ) → is_of_one key other ≡ true → interchange_in key ≡ interchange_in other
one_interchange key other same =
    first_43 key ∙ ap interchange_in ((bytes_eq-Decides (take 43 key) (take 43 other)).0 same) ∙ sym (first_43 other)

tells_apart : IsEquivalence is_of_one
tells_apart = record {
  refl = λ x. nat_list_eq_equiv.refl (take 43 x);
  symm = λ x y. nat_list_eq_equiv.symm (take 43 x) (take 43 y);
  congr = λ x y z. nat_list_eq_equiv.congr (take 43 x) (take 43 y) (take 43 z);
}

mapped : {X Y : Type 0} (f : X → Y) (xs : List X) (x : X) → Contains xs x → Contains (map f xs) (f x)
mapped f xs x has =
    (has.0, (let long = length-map xs f in omega (arith, has.1)), get_or-map f xs has.0 x (f x) has.1 ∙ ap f has.2)

pub has_each : (delivered : List (List ℕ)) (key : List ℕ) → Contains delivered key → Contains (taken_of delivered) (interchange_in key)
has_each delivered key has =
    let kept = Any-dedup tells_apart delivered key has in
    let there : Contains (dedup is_of_one delivered) kept.1 = (kept.0, kept.2, kept.3) in
    rw (one_interchange key kept.1 kept.4) (mapped interchange_in (dedup is_of_one delivered) kept.1 there)
