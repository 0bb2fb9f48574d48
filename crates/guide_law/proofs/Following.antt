-- A step with nothing missing goes to a place that may follow.
use Rattle.std.proofs.Common.{◌≡◌, ℕ, zero, suc, ◌+◌, ◌≤◌, inl, inr, [], ◌∷◌, Bool, true, false, refl}
use Rattle.std.proofs.Common.{sym, ◌∙◌, ap, subst, arith}
use Rattle.std.specs.List.{AllByRecursion}
use Rattle.guide_tree.specs.Words.{Tree, Trees, segment, loop, no_trees, tree, max_of, Place, use_of, IsFirst, IsNext, Follows}
use Rattle.guide_law.proofs.Residual.{HasTrigger, Triggered, AllTriggered, IsStart, Enters, StepsIn, Steps}

start_first : (t : Tree) (w : Place) → IsStart t w → AllByRecursion IsFirst w
start_first (segment p) [] s = tt
start_first (segment p) (a ∷ w) s = absurd s
start_first (loop l ts) [] s = absurd s
start_first (loop l ts) (a ∷ w) s = (s.0, subst (λ (v : Place). AllByRecursion IsFirst v) (sym s.1) tt)

pub enters_first : (ts : Trees) (m : ℕ) (w : Place) → Enters ts m w → AllByRecursion IsFirst w
enters_first no_trees m w e = absurd e
enters_first (tree t ts) zero w e = start_first t w e.1
enters_first (tree t ts) (suc m) w e = enters_first ts m w e.1

-- a trigger isn't used twice by itself
trigger_once : (t : Tree) (ts : Trees) (u : ℕ) → HasTrigger (tree t ts) → u + 1 ≤ max_of t → u ≡ 0
trigger_once (segment p) ts u h top = omega arith
trigger_once (loop l us) ts u h top = absurd h

next_use : (in_loop : Bool) (t : Tree) (ts : Trees) (k i j r u : ℕ)
    → (in_loop ≡ true → k ≡ 0 → HasTrigger (tree t ts)) → i ≡ k → j ≡ k → u ≡ r + 1 → u + 1 ≤ max_of t
    → IsNext in_loop (use_of i r) (use_of j u)
next_use false t ts k i j r u h hi hj hu top = inr (hj ∙ sym hi, hu, tt)
next_use true t ts zero i j r u h hi hj hu top =
    absurd (let z : u ≡ 0 = trigger_once t ts u (h refl refl) top in omega arith)
next_use true t ts (suc k) i j r u h hi hj hu top = inr (hj ∙ sym hi, hu, omega arith)

mutual
  pub steps_follow_in : (t : Tree) (q w : Place) → Triggered t → StepsIn t q w → Follows true q w
  steps_follow_in (segment p) q w h s = absurd s
  steps_follow_in (loop l ts) [] w h s = absurd s
  steps_follow_in (loop l ts) (a ∷ q) [] h s = absurd s
  steps_follow_in (loop l ts) (a ∷ q) (b ∷ w) h s =
      steps_follow true ts 0 a.child a.use_no q b.child b.use_no w a.child b.child h.1 (λ _ _. h.0) (omega arith)
      (omega arith) s

  pub steps_follow : (in_loop : Bool) (ts : Trees) (k n r : ℕ) (q : Place) (m u : ℕ) (w : Place) (i j : ℕ)
      → AllTriggered ts → (in_loop ≡ true → k ≡ 0 → HasTrigger ts)
      → i ≡ k + n → j ≡ k + m → Steps ts n r q m u w → Follows in_loop (use_of i r ∷ q) (use_of j u ∷ w)
  steps_follow b no_trees k n r q m u w i j h ht ei ej s = absurd s
  steps_follow b (tree t ts) k (suc n) r q zero u w i j h ht ei ej s = absurd s
  steps_follow b (tree t ts) k (suc n) r q (suc m) u w i j h ht ei ej s =
      steps_follow b ts (k + 1) n r q m u w i j h.1 (λ _ z. absurd (omega arith)) (omega arith) (omega arith) s
  steps_follow b (tree t ts) k zero r q zero u w i j h ht ei ej (inl (z, s)) =
      let same : i ≡ j = omega arith in
      inl (ap (λ (x : ℕ). use_of x r) same ∙ ap (λ (x : ℕ). use_of j x) (sym z), steps_follow_in t q w h.0 s)
  steps_follow b (tree t ts) k zero r q zero u w i j h ht ei ej (inr (c, z, top, s)) =
      inr (next_use b t ts k i j r u ht (omega arith) (omega arith) z top, start_first t w s)
  steps_follow b (tree t ts) k zero r q (suc m) u w i j h ht ei ej (c, least, most, z, e) =
      inr (inl ((omega arith), z), enters_first ts m w e)
