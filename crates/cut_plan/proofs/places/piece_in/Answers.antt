use Rattle.std.proofs.Common.{◌≡◌, ℕ, suc, zero, ◌-◌, ◌<◌, ◌≤◌, length, List, [], ◌∷◌, ◌++◌, get_or, arith, sym}
use Rattle.std.specs.Prelude.{Some, slice_get}
use Rattle.std.proofs.lemmas.List.{get_or_append_left, get_or_at}
use Rattle.cut_plan.specs.Plan.{pieces_from, piece_of}
use Rattle.cut_plan.proofs.Pieces.{piece_at}
use Rattle.cut_plan.proofs.places.piece_in.Goals as goal
use Rattle.cut_plan.proofs.places.piece_in.Goals.{then-index-eq0, else-index-eq0}

at_start : (a i : ℕ) (cs : List ℕ) (x : ℕ) → i ≡ 0 → x ≡ a → get_or (a ∷ cs) i 0 ≡ x
at_start a zero cs x h e = sym e
at_start a (suc i) cs x h e = absurd (omega arith)

at_later : (a i : ℕ) (cs : List ℕ) (x : ℕ) → 0 < i → x ≡ get_or cs (i - 1) 0 → get_or (a ∷ cs) i 0 ≡ x
at_later a zero cs x h e = absurd (omega arith)
at_later a (suc i) cs x h e = let k : suc i - 1 ≡ i = omega arith in sym (rw k at e)

joined : (cs : List ℕ) (end i x y : ℕ) → i ≤ length cs → get_or (0 ∷ cs) i 0 ≡ x → get_or (cs ++ end ∷ []) i 0 ≡ y
    → slice_get (pieces_from 0 cs end) i ≡ Some (piece_of x y)
joined cs end i x y h p q = rw (← p, ← q) (piece_at 0 cs end i (omega arith))

pub returns-then-index-places : goal.returns-then-index-places
returns-then-index-places c =
    joined _ _ _ _ _ c.requires
    (elim c.if-index-eq0.branch [
      | then-index-eq0 w ↦ at_start 0 c.args.index c.args.places.now _ (omega arith) w.from-is
      | else-index-eq0 w ↦ at_later 0 c.args.index c.args.places.now _ (omega arith) w.from-is
    ])
    (get_or_append_left _ _ _ _ c.if-index-places.true)

pub returns-else-index-places : goal.returns-else-index-places
returns-else-index-places c =
    joined _ _ _ _ _ c.requires
    (elim c.if-index-eq0.branch [
      | then-index-eq0 w ↦ at_start 0 c.args.index c.args.places.now _ (omega arith) w.from-is
      | else-index-eq0 w ↦ at_later 0 c.args.index c.args.places.now _ (omega arith) w.from-is
    ])
    (get_or_at c.args.places.now c.args.text_len [] 0 c.args.index (omega arith))
