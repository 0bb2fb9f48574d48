-- The places of a text that are at or after a place.
use Rattle.std.proofs.Common.{◌≡◌, inl, inr, ℕ, zero, suc, ◌+◌, ◌-◌, ◌<◌, ◌≤◌, List, [], ◌∷◌, ◌++◌, Bool, true, false, cond, length}
use Rattle.std.proofs.Common.{get_or, take, drop, refl, sym, ap, subst, ◌∙◌, arith, true≢false, nat_lt}
use Rattle.std.specs.List.Sorted.{IsPartitionedBy, IsPartitionPoint}
use Rattle.std.specs.Str.{bytes_eq}
use Rattle.std.proofs.lemmas.Bool.{cases_lt, lt-ltb, le-ltb}
use Rattle.std.proofs.lemmas.List.{length-append, length-take-le, length-drop, take_all, get_or_append_left}
use Rattle.std.proofs.Math.Seq.{drop-append_seam, get_or-append_right}
use Rattle.guide_fast.specs.Listed.{places_of}

in_front : (b : Bool) (k : ℕ) (rest more : List ℕ) → cond b (k ∷ rest ++ more) (rest ++ more) ≡ cond b (k ∷ rest) rest ++ more
in_front true k rest more = refl
in_front false k rest more = refl

split : (text : List ℕ) (k n : ℕ) (texts : List (List ℕ))
    → places_of text k texts ≡ places_of text k (take n texts) ++ places_of text (k + n) (drop n texts)
split text k zero texts = let e : k ≡ k + 0 = omega arith in ap (λ (n : ℕ). places_of text n texts) e
split text k (suc n) [] = refl
split text k (suc n) (t ∷ texts) =
    let e : (k + 1) + n ≡ k + suc n = omega arith in
    ap (λ (l : List ℕ). cond (bytes_eq t text) (k ∷ l) l) (split text (k + 1) n texts)
    ∙ in_front (bytes_eq t text) k (places_of text (k + 1) (take n texts)) (places_of text ((k + 1) + n) (drop n texts))
    ∙ ap (λ (m : ℕ). places_of text k (t ∷ take n texts) ++ places_of text m (drop n texts)) e

at_point : (text : List ℕ) (from : ℕ) (texts : List (List ℕ))
    → places_of text 0 texts ≡ places_of text 0 (take from texts) ++ places_of text from (drop from texts)
at_point text from texts =
    let e : 0 + from ≡ from = omega arith in
    split text 0 from texts ∙ ap (λ (m : ℕ). places_of text 0 (take from texts) ++ places_of text m (drop from texts)) e

abbrev IsWithin : ℕ → ℕ → List ℕ → Type 0
IsWithin low high xs = (j d : ℕ) → j < length xs → (low ≤ get_or xs j d) × (get_or xs j d < high)

first_within : (b : Bool) (k n : ℕ) (rest : List ℕ) → IsWithin (k + 1) ((k + 1) + n) rest → IsWithin k (k + suc n) (cond b (k ∷ rest) rest)
first_within true k n rest h zero d l = (omega arith, omega arith)
first_within true k n rest h (suc j) d l =
    let x = h j d (omega (arith, l)) in let y = x.0 in let z = x.1 in (omega (arith, y), omega (arith, z))
first_within false k n rest h j d l =
    let x = h j d l in let y = x.0 in let z = x.1 in (omega (arith, y), omega (arith, z))

within : (text : List ℕ) (k : ℕ) (texts : List (List ℕ)) → IsWithin k (k + length texts) (places_of text k texts)
within text k [] j d l = absurd (omega (arith, l))
within text k (t ∷ texts) j d l =
    first_within (bytes_eq t text) k (length texts) (places_of text (k + 1) texts) (within text (k + 1) texts) j d l

-- a list of two parts is parted between them
abbrev AllAre : (ℕ → Bool) → Bool → List ℕ → Type 0
AllAre p b xs = (j d : ℕ) → j < length xs → p (get_or xs j d) ≡ b

parted : (p : ℕ → Bool) (a b : List ℕ) → AllAre p true a → AllAre p false b → IsPartitionedBy p (a ++ b)
parted p a b are fail i j d l bound h =
    let n = length-append a b in
    elim (cases_lt i (length a)) [
      | inl e ↦ ap p (get_or_append_left a b d i e) ∙ are i d e
      | inr e ↦ absurd (true≢false (sym h ∙ ap p (get_or-append_right a b j d (omega (arith, e, l)))
          ∙ fail (j - length a) d (omega (arith, e, l, bound, n))))
    ]

rest_at : (p : ℕ → Bool) (a b : List ℕ) (i : ℕ) → AllAre p true a → AllAre p false b → i ≤ length (a ++ b)
    → IsPartitionPoint (λ y. p y ≡ true) (λ y. p y ≡ false) (a ++ b) i → i ≡ length a
rest_at p a b i are fail bound at =
    let n = length-append a b in
    elim (cases_lt i (length a)) [
      | inl e ↦ absurd (true≢false (sym (ap p (get_or_append_left a b 0 i e) ∙ are i 0 e) ∙ at.1 i 0 (omega arith) (omega (arith, e, n))))
      | inr e ↦ elim (cases_lt (length a) i) [
        | inl f ↦ absurd (true≢false (sym (at.0 (length a) 0 (omega arith) f)
            ∙ ap p (get_or-append_right a b (length a) 0 (omega arith)) ∙ fail (length a - length a) 0 (omega (arith, f, bound, n))))
        | inr f ↦ omega (arith, e, f)
      ]
    ]

abbrev pub below : ℕ → ℕ → Bool
below from y = nat_lt y from

first_below : (text : List ℕ) (texts : List (List ℕ)) (from : ℕ) → from ≤ length texts
    → AllAre (below from) true (places_of text 0 (take from texts))
first_below text texts from h j d l =
    let n : length (take from texts) ≡ from = length-take-le from texts h in
    let x = (within text 0 (take from texts) j d l).1 in lt-ltb _ _ (omega (arith, x, n))

last_not : (text : List ℕ) (texts : List (List ℕ)) (from : ℕ) → AllAre (below from) false (places_of text from (drop from texts))
last_not text texts from j d l = let x = (within text from (drop from texts) j d l).0 in le-ltb _ _ (omega (arith, x))

pub parted_at : (text : List ℕ) (texts : List (List ℕ)) (from : ℕ) → from ≤ length texts
    → IsPartitionedBy (below from) (places_of text 0 texts)
parted_at text texts from h =
    subst (IsPartitionedBy (below from)) (sym (at_point text from texts))
    (parted (below from) (places_of text 0 (take from texts)) (places_of text from (drop from texts)) (first_below text texts from h)
    (last_not text texts from))

part_behind : (text : List ℕ) (texts : List (List ℕ)) (from i : ℕ) → from ≤ length texts → i ≤ length (places_of text 0 texts)
    → IsPartitionPoint (λ y. below from y ≡ true) (λ y. below from y ≡ false) (places_of text 0 texts) i
    → drop i (places_of text 0 texts) ≡ places_of text from (drop from texts)
part_behind text texts from i h bound at =
    let a : List ℕ = places_of text 0 (take from texts) in
    let b : List ℕ = places_of text from (drop from texts) in
    let e : places_of text 0 texts ≡ a ++ b = at_point text from texts in
    let k : i ≡ length a = rest_at (below from) a b i (first_below text texts from h) (last_not text texts from)
    (subst (λ (l : List ℕ). i ≤ length l) e bound)
    (subst (λ (l : List ℕ). IsPartitionPoint (λ y. below from y ≡ true) (λ y. below from y ≡ false) l i) e at) in
    ap (drop i) e ∙ ap (λ (n : ℕ). drop n (a ++ b)) k ∙ drop-append_seam a b

pub all_behind : (xs : List ℕ) (i : ℕ) → take (length xs - i) (drop i xs) ≡ drop i xs
all_behind xs i = let n : length (drop i xs) ≡ length xs - i = length-drop i xs in take_all (length xs - i) (drop i xs) (omega arith)

pub behind : (xs : List ℕ) (text : List ℕ) (texts : List (List ℕ)) (from i : ℕ) → from ≤ length texts → xs ≡ places_of text 0 texts
    → i ≤ length xs → IsPartitionPoint (λ y. below from y ≡ true) (λ y. below from y ≡ false) xs i
    → drop i xs ≡ places_of text from (drop from texts)
behind xs text texts from i h e bound at =
    ap (drop i) e
    ∙ part_behind text texts from i h (subst (λ (l : List ℕ). i ≤ length l) e bound)
    (subst (λ (l : List ℕ). IsPartitionPoint (λ y. below from y ≡ true) (λ y. below from y ≡ false) l i) e at)
