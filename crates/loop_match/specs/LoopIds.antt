-- 999 guide, IK303, loop identifier code: the id of the innermost loop round a place of a guide.
use Rattle.std.specs.Prelude.{ℕ, zero, suc, List, [], ◌∷◌}
use Rattle.guide_tree.specs.Words.{Tree, Trees, segment, loop, no_trees, tree, Place}

-- on a place's way down from a node, or among nodes to a child of theirs; outer where there isn't a loop
abbrev mutual
  pub loop_id_in : (outer : List ℕ) → Tree → Place → List ℕ
  loop_id_in outer (segment s) q = outer
  loop_id_in outer (loop l ts) [] = l.id
  loop_id_in outer (loop l ts) (a ∷ q) = loop_id_nth l.id ts a.child q

  pub loop_id_nth : (outer : List ℕ) → Trees → (child : ℕ) → Place → List ℕ
  loop_id_nth outer no_trees n q = outer
  loop_id_nth outer (tree t ts) zero q = loop_id_in outer t q
  loop_id_nth outer (tree t ts) (suc n) q = loop_id_nth outer ts n q

abbrev pub loop_id_under : (outer : List ℕ) → Trees → Place → List ℕ
loop_id_under outer ts [] = outer
loop_id_under outer ts (a ∷ q) = loop_id_nth outer ts a.child q

-- the id of the innermost loop in which a place is; empty where it is in none
abbrev pub loop_id_of : Trees → Place → List ℕ
loop_id_of ts q = loop_id_under [] ts q
