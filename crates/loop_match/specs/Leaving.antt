-- 999 guide, IK304: what shows where nodes end, or are stepped over, from places that may be the beginning. Private.
use Rattle.std.specs.Prelude.{ℕ, List, [], ◌∷◌}
use Rattle.hub_kinds.specs.declared.fault.Fault.{Fault}
use Rattle.guide_tree.specs.Words.{Trees, Place, ended, stepped}

abbrev pub ended_among : ℕ → List ℕ → Trees → Place → List Fault
ended_among at outer ts [] = []
ended_among at outer ts (a ∷ p) = ended at outer ts a.child a.use_no p

abbrev pub stepped_among : ℕ → List ℕ → Trees → Place → Place → List Fault
stepped_among at outer ts [] q = []
stepped_among at outer ts (a ∷ p) [] = []
stepped_among at outer ts (a ∷ p) (b ∷ q) = stepped at outer ts a.child b.child a.use_no b.use_no p q
