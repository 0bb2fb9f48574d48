-- A segment that fits the slots of two nodes fits them also by the numbers that they have.
use Rattle.std.proofs.Common.{◌≡◌, ℕ, List, [], ◌∷◌, Option, None, Some, subst}
use Rattle.guide_tree.specs.Words.{Tree, Trees, loop, segment}
use Rattle.setup_errors.specs.Nodes.{FitsBoth, FitsNode, IsCommon, numbered_node}
use Rattle.setup_errors.specs.Search.{with_number}

fits_numbered : (k : ℕ) (o : Option Tree) (s : List (List ℕ)) → FitsNode s o → FitsNode s (with_number k o)
fits_numbered k None s h = h
fits_numbered k (Some (segment slot)) s h = h
fits_numbered k (Some (loop l ts)) s h = h

pub common : (nodes : Trees) (first second : ℕ) (one other : Option Tree) (s : List (List ℕ))
    → with_number first one ≡ numbered_node first nodes → with_number second other ≡ numbered_node second nodes
    → FitsBoth one other s → IsCommon nodes first second s
common nodes first second one other [] a b h = tt
common nodes first second one other (x ∷ xs) a b h = (
  subst (FitsNode (x ∷ xs)) a (fits_numbered first one (x ∷ xs) h.0),
  subst (FitsNode (x ∷ xs)) b (fits_numbered second other (x ∷ xs) h.1),
)
