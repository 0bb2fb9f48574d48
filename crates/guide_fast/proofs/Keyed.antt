-- The text by which a slot is looked for is one of the first elements of each segment that fits it.
use Rattle.std.proofs.Common.{◌≡◌, inl, inr, ℕ, zero, suc, ◌<◌, ◌≤◌, ◌+◌, List, [], ◌∷◌, Bool, true, false, ◌&&◌, ◌||◌, cond, nat_lt}
use Rattle.std.proofs.Common.{length, get_or, take, drop, refl, sym, ap, subst, ◌∙◌, arith, None}
use Rattle.std.proofs.lemmas.Bool.{cases_lt, false≢true}
use Rattle.std.specs.List.{list_all}
use Rattle.std.specs.Str.{bytes_eq}
use Rattle.hub_kinds.specs.Words.{contains_text}
use Rattle.guide_tree.specs.declared.slot.Slot.{Slot}
use Rattle.guide_tree.specs.declared.slot.Pick.{Pick}
use Rattle.guide_tree.specs.Words.{Tree, segment, loop, no_trees, tree, Segment, element_at, fits, fit_start, segment_id, use_of}
use Rattle.guide_fast.specs.declared.keys.TheConstants.{POSITIONS}
use Rattle.guide_fast.specs.Keys.{code_or, key_of, slot_key, tree_key, reach_of, slot_reach, tree_reach, Reaches}
use Rattle.guide_fast.proofs.FirstPicks.{and_false, no_slot_fit}

-- a text is one of the first elements
abbrev pub is_told : Segment → (positions : ℕ) → (text : List ℕ) → Bool
is_told s zero text = false
is_told s (suc n) text = is_told s n text || bytes_eq text (element_at s n)

left_false : (a b : Bool) → (a || b) ≡ false → a ≡ false
left_false false b e = refl
left_false true b e = e

right_false : (a b : Bool) → (a || b) ≡ false → b ≡ false
right_false false b e = e
right_false true b e = absurd (false≢true (sym e))

not_told : (s : Segment) (n k : ℕ) (text : List ℕ) → k < n → is_told s n text ≡ false → bytes_eq text (element_at s k) ≡ false
not_told s zero k text l e = absurd (omega (arith, l))
not_told s (suc n) k text l e =
    elim (cases_lt k n) [
      | inl h ↦ not_told s n k text h (left_false (is_told s n text) (bytes_eq text (element_at s n)) e)
      | inr h ↦ let same : n ≡ k = omega (arith, l, h) in
          ap (λ (m : ℕ). bytes_eq text (element_at s m)) (sym same)
          ∙ right_false (is_told s n text) (bytes_eq text (element_at s n)) e
    ]

other_id : (s : Segment) (n : ℕ) (id : List ℕ) (rest : Bool) → 1 ≤ n → is_told s n id ≡ false → (bytes_eq id (segment_id s) && rest) ≡ false
other_id s n id rest h e = ap (λ (b : Bool). b && rest) (not_told s n 0 id (omega (arith, h)) e)

least : (n k : ℕ) (is_near : Bool) → cond is_near (k + 1) 1 ≤ n → 1 ≤ n
least n k true h = omega (arith, h)
least n k false h = h

by_codes : (s : Segment) (n : ℕ) (id : List ℕ) (k : ℕ) (is_near : Bool) (codes : List (List ℕ)) (rest : Bool)
    → cond is_near (k + 1) 1 ≤ n → is_told s n (code_or id is_near codes) ≡ false
    → (bytes_eq id (segment_id s) && (contains_text codes (element_at s k) && rest)) ≡ false
by_codes s n id k is_near [] rest h e = other_id s n id (contains_text [] (element_at s k) && rest) (least n k is_near h) e
by_codes s n id k true (c ∷ []) rest h e =
    ap (λ (b : Bool). bytes_eq id (segment_id s) && ((b || false) && rest)) (not_told s n k c (omega (arith, h)) e)
    ∙ and_false (bytes_eq id (segment_id s))
by_codes s n id k false (c ∷ []) rest h e = other_id s n id (contains_text (c ∷ []) (element_at s k) && rest) h e
by_codes s n id k is_near (c ∷ d ∷ more) rest h e =
    other_id s n id (contains_text (c ∷ d ∷ more) (element_at s k) && rest) (least n k is_near h) e

by_picks : (s : Segment) (n : ℕ) (id : List ℕ) (ps : List Pick) → reach_of ps ≤ n → is_told s n (key_of id ps) ≡ false
    → (bytes_eq id (segment_id s) && list_all (λ p. contains_text p.codes (element_at s p.position)) ps) ≡ false
by_picks s n id [] h e = other_id s n id true h e
by_picks s n id (p ∷ ps) h e =
    by_codes s n id p.position (nat_lt p.position POSITIONS) p.codes
    (list_all (λ q. contains_text q.codes (element_at s q.position)) ps) h e

pub no_fit_told : (s : Segment) (n : ℕ) (x : Slot) → slot_reach x ≤ n → is_told s n (slot_key x) ≡ false → fits x s ≡ false
no_fit_told s n x h e = by_picks s n x.id x.picks h e

pub no_start_told : (s : Segment) (n : ℕ) (t : Tree) → tree_reach t ≤ n → is_told s n (tree_key t) ≡ false → fit_start s t ≡ None
no_start_told s n (segment x) h e = no_slot_fit s [] x (no_fit_told s n x h e)
no_start_told s n (loop l no_trees) h e = refl
no_start_told s n (loop l (tree (segment x) ts)) h e = no_slot_fit s (use_of 0 0 ∷ []) x (no_fit_told s n x h e)
no_start_told s n (loop l (tree (loop k us) ts)) h e = refl

pub reached_behind : {X : Type 0} (f : X → ℕ) (n k : ℕ) (xs : List X) → Reaches f n xs → Reaches f n (drop k xs)
reached_behind f n zero xs h = h
reached_behind f n (suc k) [] h = h
reached_behind f n (suc k) (x ∷ xs) h = reached_behind f n k xs h.1

-- one more is reached
pub one_reached : {X : Type 0} (f : X → ℕ) (xs : List X) (k n m : ℕ) (x : X) → k < length xs → x ≡ get_or xs k x
    → Reaches f n (take k xs) → n ≤ m → f x ≤ m → Reaches f m (take (k + 1) xs)
one_reached f [] k n m x l e h grown own = absurd (omega (arith, l))
one_reached f (y ∷ xs) zero n m x l e h grown own = (subst (λ z. f z ≤ m) e own, tt)
one_reached f (y ∷ xs) (suc k) n m x l e h grown own =
    let a : suc (k + 1) ≡ suc k + 1 = omega arith in
    let first = h.0 in
    subst (λ (i : ℕ). Reaches f m (take i (y ∷ xs))) a
    (omega (arith, first, grown), one_reached f xs k n m x (omega (arith, l)) e h.1 grown own)
