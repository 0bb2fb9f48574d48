-- Each step keeps the rule of the desk.
use Rattle.std.proofs.Common.{◌≡◌, ℕ, zero, suc, ◌+◌, ◌<◌, ◌≤◌, ◌≢◌, ◌%◌, ◌^◌, Bool, true, false, List, [], ◌∷◌, ◌++◌, set, sym, refl}
use Rattle.std.proofs.Common.{ap, ◌∙◌, subst, ⊎_elim, min, ltb, if◌then◌else◌, slice_index, arith}
use Rattle.std.proofs.lemmas.Bool.{ltb-true, ltb-false}
use mathlib.Core.Option.{some, some-injective, some-ne-none, none}
use lib.ListN.{get_elem?}
use Rattle.atomic_table.specs.Table.{Me, step, Allows, Splits, Joins, keeps}
use Rattle.atomic_table.proofs.Lists.{at_set, at_snoc}
use Rattle.claim_desk.specs.declared.rule.View.{View}
use Rattle.claim_desk.specs.Seats.{times, once_below}
use Rattle.claim_desk.specs.Rule.{view, Fits, IsDesk, Orderly, IsWhole, after_claim, claimed, looked, lighter, newcomer, joined, spent}
use Rattle.claim_desk.proofs.Totals.{total_set, total_snoc, total_le, total_at, total_only, times_append, once_below_next}

abbrev weight_of : View → ℕ
weight_of v = v.weight

abbrev ended_of : View → ℕ
ended_of v = v.ended

abbrev Each : ℕ → ℕ → List View → Type 0
Each n seats views = (k : ℕ) (v : View) → get_elem? views k ≡ some v → Fits n seats v

each_set : (n seats : ℕ) (views : List View) (k : ℕ) (w : View) → Fits n seats w → Each n seats views → Each n seats (set views k w)
each_set n seats views k w fits h j u e = ⊎_elim (λ (x : (j ≡ k) × (w ≡ u)). subst (λ y. Fits n seats y) x.1 fits) (λ (x : (j ≢ k)
    × (get_elem? views j ≡ some u)). h j u x.1) (at_set views k j w u e)

each_snoc : (n seats : ℕ) (views : List View) (w : View) → Fits n seats w → Each n seats views → Each n seats (views ++ w ∷ [])
each_snoc n seats views w fits h j u e = ⊎_elim (λ (x : get_elem? views j ≡ some u). h j u x)
    (λ (x : w ≡ u). subst (λ y. Fits n seats y) x fits) (at_snoc views w u j e)

module _ (n seats word : ℕ) (views : List View) (d : IsDesk n seats word views) where
  pub word_fits : word + 1 < 2 ^ 64
  word_fits = let few = total_le ended_of weight_of views (λ k v e. (d.each k v e).0) in let w = d.weights in let s = d.small in
      let m = d.ends in omega arith

  module _ (k : ℕ) (v : View) (at : get_elem? views k ≡ some v) where
    pub whole : IsWhole v
    whole heavy ended x =
        let fits = d.each k v at in
        let same = fits.2 (omega (arith, fits.0)) in
        let all = total_only weight_of (λ u. times x u.got) views k v at (d.weights ∙ sym same.1
        ∙ sym heavy) (λ j u e light. ap (times x) ((d.each j u e).1 light)) in
        let some_ended = total_at ended_of views k v at in
        let past : n < word = let m = d.ends in omega arith in
        let low : min word n ≡ v.n = let s = same.0 in omega arith in
        sym all ∙ d.drawn x ∙ ap (once_below x) low

    pub light : v.weight ≤ 64
    light = let low = total_at weight_of views k v at in let w = d.weights in let s = d.small in omega arith

    took : (w : View) → w ≡ view v.n v.seats (v.got ++ word ∷ []) v.weight v.ended → 0 < v.weight → word < n
        → IsDesk n seats (word + 1) (set views k w)
    took w is heavy low =
        let fits = d.each k v at in
        let same = fits.2 heavy in
        subst (λ (u : View). IsDesk n seats (word + 1) (set views k u)) (sym is) record {
          small = d.small;
          drawn = λ x.
              let s = total_set (λ u. times x u.got) views k v (view v.n v.seats (v.got ++ word ∷ []) v.weight v.ended) at in
              let a = times_append x v.got (word ∷ []) in
              let b = once_below_next x word in
              let c : min word n ≡ word = omega arith in
              let e : min (word + 1) n ≡ word + 1 = omega arith in
              let f = d.drawn x ∙ ap (once_below x) c in
              let g = ap (once_below x) e in
              omega arith;
          weights = let s = total_set weight_of views k v (view v.n v.seats (v.got ++ word ∷ []) v.weight v.ended) at in
              let p = d.weights in omega arith;
          ends = let s = total_set ended_of views k v (view v.n v.seats (v.got ++ word ∷ []) v.weight v.ended) at in
              let p = d.ends in omega arith;
          each = each_set n seats views k (view v.n v.seats (v.got ++ word ∷ []) v.weight v.ended)
              (fits.0, (λ none. absurd (omega arith)), λ _. same) d.each;
        }

    stopped : (w : View) → w ≡ view v.n v.seats v.got v.weight (v.ended + 1) → 0 < v.weight → v.ended ≡ 0 → n ≤ word
        → IsDesk n seats (word + 1) (set views k w)
    stopped w is heavy fresh high =
        let fits = d.each k v at in
        let same = fits.2 heavy in
        subst (λ (u : View). IsDesk n seats (word + 1) (set views k u)) (sym is) record {
          small = d.small;
          drawn = λ x.
              let s = total_set (λ u. times x u.got) views k v (view v.n v.seats v.got v.weight (v.ended + 1)) at in
              let c : min (word + 1) n ≡ min word n = omega arith in
              let f = d.drawn x in
              let g = ap (once_below x) c in
              omega arith;
          weights = let s = total_set weight_of views k v (view v.n v.seats v.got v.weight (v.ended + 1)) at in
              let p = d.weights in omega arith;
          ends = let s = total_set ended_of views k v (view v.n v.seats v.got v.weight (v.ended + 1)) at in let p = d.ends in omega arith;
          each = each_set n seats views k (view v.n v.seats v.got v.weight (v.ended + 1))
              (omega arith, (λ none. absurd (omega arith)), λ _. same) d.each;
        }

    claim_by : (b : Bool) → ltb word v.n ≡ b → 0 < v.weight → v.ended ≡ 0
        → IsDesk n seats (word + 1)
        (set views k (if b then view v.n v.seats (v.got ++ word ∷ []) v.weight v.ended else view v.n v.seats v.got v.weight (v.ended + 1)))
    claim_by true is heavy fresh =
        let same = ((d.each k v at).2 heavy).0 in
        took _ refl heavy (let l = ltb-true word v.n is in omega arith)
    claim_by false is heavy fresh = let same = ((d.each k v at).2 heavy).0 in
        stopped _ refl heavy fresh (let l = ltb-false word v.n is in omega arith)

    pub claims_keep : 0 < v.weight → v.ended ≡ 0 → IsDesk n seats (word + 1) (set views k (after_claim v word))
    claims_keep heavy fresh = claim_by (ltb word v.n) refl heavy fresh

    pub split_keeps : 2 ≤ v.weight → v.ended ≡ 0 → IsDesk n seats word (set views k (lighter v) ++ newcomer v ∷ [])
    split_keeps heavy fresh =
        let fits = d.each k v at in
        let same = fits.2 (omega arith) in
        record {
          small = d.small;
          drawn = λ x. let s = total_set (λ u. times x u.got) views k v (lighter v) at in
              let t = total_snoc (λ u. times x u.got) (set views k (lighter v)) (newcomer v) in let f = d.drawn x in omega arith;
          weights = let s = total_set weight_of views k v (lighter v) at in
              let t = total_snoc weight_of (set views k (lighter v)) (newcomer v) in let f = d.weights in omega arith;
          ends = let s = total_set ended_of views k v (lighter v) at in
              let t = total_snoc ended_of (set views k (lighter v)) (newcomer v) in let f = d.ends in omega arith;
          each = each_snoc n seats (set views k (lighter v)) (newcomer v) (omega arith, (λ none. refl), λ _. same)
              (each_set n seats views k (lighter v) (omega arith, (λ none. absurd (omega arith)), λ _. same) d.each);
        }

    pub join_keeps : (j : ℕ) (u : View) → (j ≢ k) → get_elem? (set views k (joined v u)) j ≡ some u → 0 < v.weight
        → IsDesk n seats word (set (set views k (joined v u)) j spent)
    join_keeps j u two there heavy =
        let fits = d.each k v at in
        let same = fits.2 heavy in
        let was : get_elem? views j ≡ some u = ⊎_elim (λ x. absurd (two x.0)) (λ x. x.1) (at_set views k j (joined v u) u there) in
        let fits' = d.each j u was in
        let one = set views k (joined v u) in
        record {
          small = d.small;
          drawn = λ x. let s = total_set (λ y. times x y.got) views k v (joined v u) at in
              let t = total_set (λ y. times x y.got) one j u spent there in let a = times_append x v.got u.got in
              let f = d.drawn x in omega arith;
          weights = let s = total_set weight_of views k v (joined v u) at in let t = total_set weight_of one j u spent there in
              let f = d.weights in omega arith;
          ends = let s = total_set ended_of views k v (joined v u) at in let t = total_set ended_of one j u spent there in
              let f = d.ends in omega arith;
          each = each_set n seats one j spent (omega arith, (λ _. refl), λ some_weight. absurd (omega arith))
              (each_set n seats views k (joined v u) (omega arith, (λ none. absurd (omega arith)), λ _. same) d.each);
        }

-- the word's successor does not wrap
next : (s : List ℕ) (word : ℕ) → s ≡ word ∷ [] → word + 1 < 2 ^ 64 → set s 0 ((slice_index s 0 + 1) % 2 ^ 64) ≡ (word + 1) ∷ []
next s word is small = subst (λ (l : List ℕ). set l 0 ((slice_index l 0 + 1) % 2 ^ 64) ≡ (word + 1) ∷ []) (sym is) (ap (λ k. k ∷ [])
    (omega arith))

set_there : (l : List View) (i : ℕ) (v w : View) → get_elem? l i ≡ some v → get_elem? (set l i w) i ≡ some w
set_there [] i v w e = absurd (some-ne-none v (sym e))
set_there (x ∷ xs) zero v w e = refl
set_there (x ∷ xs) (suc i) v w e = set_there xs i v w e

set_same : (l : List View) (i : ℕ) (v : View) → get_elem? l i ≡ some v → set l i v ≡ l
set_same [] i v e = refl
set_same (x ∷ xs) zero v e = λ k. sym (some-injective x v e) k ∷ xs
set_same (x ∷ xs) (suc i) v e = λ k. x ∷ set_same xs i v e k

pub claims : (key : ℕ × ℕ) (slots id : ℕ) (me : Me (Unit {0}) View) → 0 < me.0.weight → me.0.ended ≡ 0
    → Allows (Orderly key) slots id me 0 (λ n. (n + 1) % 2 ^ 64) (claimed (step slots 0 1 0 none) me)
claims key slots id me heavy fresh s kept len at low =
    let word = kept.0 in
    let found : slice_index s.words 0 ≡ word = ap (λ (l : List ℕ). slice_index l 0) kept.1 in
    let now = claims_keep key.0 key.1 word s.views kept.2 id me.0 at heavy fresh in
    let all : IsWhole (after_claim me.0 word) = whole key.0 key.1 (word + 1)
    (set s.views id (after_claim me.0 word)) now id (after_claim me.0 word) (set_there s.views id me.0 (after_claim me.0 word) at) in (
      after_claim me.0 (slice_index s.words 0),
      keeps,
      tt,
      (
        word + 1,
        next s.words word kept.1 (word_fits key.0 key.1 word s.views kept.2),
        subst (λ (j : ℕ). IsDesk key.0 key.1 (word + 1)
            (set s.views id (after_claim me.0 j))) (sym found) now,
      ),
      (refl, refl, subst (λ (j : ℕ). IsWhole (after_claim me.0 j)) (sym found) all),
    )

pub looks : (key : ℕ × ℕ) (slots id : ℕ) (me : Me (Unit {0}) View)
    → Allows (Orderly key) slots id me 0 (λ n. n) (looked (step slots 0 0 0 none) me)
looks key slots id me s kept len at low =
    let word = kept.0 in
    let same : set s.words 0 (slice_index s.words 0) ≡ word ∷ [] = subst (λ (l : List ℕ). set l 0 (slice_index l 0) ≡ word ∷ [])
    (sym kept.1) refl in (
      me.0,
      keeps,
      tt,
      (word, same, subst (λ (l : List View). IsDesk key.0 key.1 word l) (sym (set_same s.views id me.0 at)) kept.2),
      (refl, whole key.0 key.1 word s.views kept.2 id me.0 at, light key.0 key.1 word s.views kept.2 id me.0 at),
    )

pub splits : (key : ℕ × ℕ) (id : ℕ) (v : View) → 2 ≤ v.weight → v.ended ≡ 0 → Splits (Orderly key) id v (lighter v) (newcomer v)
splits key id v heavy fresh s kept at = (kept.0, kept.1, split_keeps key.0 key.1 kept.0 s.views kept.2 id v at heavy fresh)

pub joins : (key : ℕ × ℕ) (id : ℕ) (v : View) (other : ℕ) (w : View) → 0 < v.weight → Joins (Orderly key) id v other w (joined v w) spent
joins key id v other w heavy s kept at two there = (
  kept.0,
  kept.1,
  join_keeps key.0 key.1 kept.0 s.views kept.2 id v at other w two there heavy,
)
