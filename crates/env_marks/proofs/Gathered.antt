-- What the laws give of the values of all pieces of a plan.
use Rattle.std.proofs.Common.{◌≡◌, ℕ, ◌+◌, ◌<◌, ◌≤◌, get_or, List, [], ◌∷◌, true, length, arith, ap, ◌∙◌}
use Rattle.std.proofs.Common.{refl}
use Rattle.std.specs.Prelude.{nat_le, map, slice_get, Some, take, ◌++◌, remove}
use Rattle.std.proofs.lemmas.Option.{slice_get_within, get_or_from_slice_get}
use Rattle.std.proofs.lemmas.List.{take_more, map-append}
use Rattle.x12_bytes.specs.declared.piece.Piece.{Piece}
use Rattle.std.specs.List.{list_all}
use Rattle.std.proofs.lemmas.Bool.{and_parts, leb-true}
use Rattle.cut_plan.specs.Plan.{rises_from, pieces_from, all_up_to}
use Rattle.env_marks.specs.Laws.{PieceLaws, joined_all, values}

module _ {U X V : Type 0} {value : U → List X → ℕ → ℕ → V} {joined : V → V → V} (laws : PieceLaws value joined) where
  -- the pieces from b on, joined to what stands before them
  pub joined_all-pieces : (u : U) (items : List X) (a b : ℕ) (cs : List ℕ) (end : ℕ) → a ≤ b → b ≤ end → end ≤ length items →
      rises_from b cs ≡ true → all_up_to end cs ≡ true →
      joined_all joined (value u items a b) (values value u items (pieces_from b cs end)) ≡ value u items a end
  joined_all-pieces u items a b [] end h k l r s = laws.both u items a b end h k l
  joined_all-pieces u items a b (c ∷ cs) end h k l r s =
      let rises = and_parts (nat_le b c) (rises_from c cs) r in
      let inside = and_parts (nat_le c end) (list_all (λ d. nat_le d end) cs) s in
      let up : b ≤ c = leb-true b c rises.0 in
      let within : c ≤ end = leb-true c end inside.0 in
      ap (λ v. joined_all joined v (values value u items (pieces_from c cs end))) (laws.both u items a b c h up (omega arith))
      ∙ joined_all-pieces u items a c cs end (omega arith) within l rises.1 inside.1

  -- the values of all pieces make the value of the whole
  pub gathered : (u : U) (items : List X) (cs : List ℕ) (end : ℕ) (first : V) (rest : List V) → end ≤ length items →
      rises_from 0 cs ≡ true → all_up_to end cs ≡ true → first ∷ rest ≡ values value u items (pieces_from 0 cs end) →
      joined_all joined first rest ≡ value u items 0 end
  gathered u items [] end first rest l r s e =
      let f : first ≡ value u items 0 end = cc in
      let n : rest ≡ [] = cc in
      rw (n, f) refl
  gathered u items (c ∷ cs) end first rest l r s e =
      let rises = and_parts (nat_le 0 c) (rises_from c cs) r in
      let inside = and_parts (nat_le c end) (list_all (λ d. nat_le d end) cs) s in
      let f : first ≡ value u items 0 c = cc in
      let n : rest ≡ values value u items (pieces_from c cs end) = cc in
      rw (n, f) (joined_all-pieces u items 0 c cs end (omega arith) (leb-true c end inside.0) l rises.1 inside.1)

-- one piece more
pub values-more : {U X W : Type 0} (value : U → List X → ℕ → ℕ → W) (u : U) (items : List X) (ps : List Piece) (i : ℕ) (p : Piece)
    → slice_get ps i ≡ Some p →
    values value u items (take (i + 1) ps) ≡ values value u items (take i ps) ++ value u items p.from p.to ∷ []
values-more {W = W} value u items ps i p e =
    let h : i < length ps = slice_get_within ps i p e in
    let at : get_or ps i p ≡ p = get_or_from_slice_get ps i p p e in
    let of : Piece → W = λ q. value u items q.from q.to in
    ap (map of) (take_more ps i p h) ∙ map-append of (take i ps) (get_or ps i p ∷ []) ∙ ap (λ q. map of (take i ps) ++ of q ∷ []) at

-- a list's first element and the others
pub split_first : {X : Type 0} (xs ys : List X) (x : X) → 0 < length xs → x ≡ get_or xs 0 x → ys ≡ remove xs 0 → x ∷ ys ≡ xs
split_first [] ys x h e r = absurd (omega arith)
split_first (z ∷ zs) ys x h e r = rw (r, e) refl
