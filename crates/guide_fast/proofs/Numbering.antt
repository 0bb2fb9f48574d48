-- In a guide whose nodes are numbered each loop's nodes stand at its number.
use Rattle.std.proofs.Common.{◌≡◌, ℕ, zero, suc, ◌+◌, List, [], ◌∷◌, ◌++◌, length, refl, sym, ap, subst, ◌∙◌, arith, Some}
use Rattle.std.specs.Prelude.{slice_get}
use Rattle.std.proofs.lemmas.List.{length-append, append_assoc, append-nil}
use Rattle.guide_tree.specs.Words.{Tree, Trees, segment, loop, no_trees, tree, numbered, numbered_in, count_in, node_count}
use Rattle.guide_fast.specs.Tables.{lists_in, lists_of, tables_of, HasTablesIn, HasTables}

mutual
  counted_in : (n : ℕ) (t : Tree) → length (lists_in (numbered_in n t)) ≡ count_in t
  counted_in n (segment s) = refl
  counted_in n (loop l ts) = let e = counted (n + 1) ts in omega (arith, e)

  counted : (n : ℕ) (ts : Trees) → length (lists_of (numbered n ts)) ≡ node_count ts
  counted n no_trees = refl
  counted n (tree t ts) =
      let e = counted_in n t in
      let f = counted (n + count_in t) ts in
      length-append (lists_in (numbered_in n t)) (lists_of (numbered (n + count_in t) ts)) ∙ omega (arith, e, f)

at_seam : (pre : List Trees) (ts : Trees) (post : List Trees) (n : ℕ) → length pre ≡ n → slice_get (pre ++ ts ∷ post) n ≡ Some ts
at_seam [] ts post zero e = refl
at_seam [] ts post (suc n) e = absurd (omega (arith, e))
at_seam (p ∷ pre) ts post zero e = absurd (omega (arith, e))
at_seam (p ∷ pre) ts post (suc n) e = at_seam pre ts post n (omega (arith, e))

mutual
  has_in : (pre : List Trees) (t : Tree) (post : List Trees) (n : ℕ) → length pre ≡ n
      → HasTablesIn (pre ++ (lists_in (numbered_in n t) ++ post)) (numbered_in n t)
  has_in pre (segment s) post n e = tt
  has_in pre (loop l ts) post n e =
      let inner : Trees = numbered (n + 1) ts in
      let m : length (pre ++ inner ∷ []) ≡ n + 1 = length-append pre (inner ∷ []) ∙ omega (arith, e) in (
        at_seam pre inner (lists_of inner ++ post) n e,
        subst (λ (tables : List Trees). HasTables tables inner) (append_assoc pre (inner ∷ []) (lists_of inner ++ post))
            (has (pre ++ inner ∷ []) ts post (n + 1) m),
      )

  has : (pre : List Trees) (ts : Trees) (post : List Trees) (n : ℕ) → length pre ≡ n
      → HasTables (pre ++ (lists_of (numbered n ts) ++ post)) (numbered n ts)
  has pre no_trees post n e = tt
  has pre (tree t ts) post n e =
      let first : List Trees = lists_in (numbered_in n t) in
      let others : List Trees = lists_of (numbered (n + count_in t) ts) in
      let k = counted_in n t in
      let m : length (pre ++ first) ≡ n + count_in t = length-append pre first ∙ omega (arith, e, k) in (
        subst (λ (tables : List Trees). HasTablesIn (pre ++ tables) (numbered_in n t)) (sym (append_assoc first others post))
            (has_in pre t (others ++ post) n e),
        subst (λ (tables : List Trees). HasTables tables (numbered (n + count_in t) ts))
            (append_assoc pre first (others ++ post) ∙ ap (λ (tables : List Trees). pre ++ tables) (sym (append_assoc first others post)))
            (has (pre ++ first) ts post (n + count_in t) m),
      )

pub has_tables : (ts : Trees) → HasTables (tables_of (numbered 1 ts)) (numbered 1 ts)
has_tables ts =
    let own : Trees = numbered 1 ts in
    subst (λ (tables : List Trees). HasTables (own ∷ tables) own) (append-nil (lists_of own)) (has (own ∷ []) ts [] 1 refl)
