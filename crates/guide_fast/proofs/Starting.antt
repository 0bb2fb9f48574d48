-- A segment with another id than a node begins with doesn't fit its start.
use Rattle.std.proofs.Common.{◌≡◌, [], ◌∷◌, false, refl}
use Rattle.std.proofs.Common.{None}
use Rattle.std.specs.Str.{bytes_eq}
use Rattle.guide_tree.specs.declared.slot.Slot.{Slot}
use Rattle.guide_tree.specs.Words.{Tree, segment, loop, no_trees, tree, Segment, Place, use_of, first_id}
use Rattle.guide_tree.specs.Words.{fit_start, segment_id}
use Rattle.guide_tree.specs.Fits.{fit_slot}

no_slot : (s : Segment) (q : Place) (x : Slot) → bytes_eq x.id (segment_id s) ≡ false → fit_slot s q x ≡ None
no_slot s q x e = rw e refl

pub no_start : (s : Segment) (t : Tree) → bytes_eq (first_id t) (segment_id s) ≡ false → fit_start s t ≡ None
no_start s (segment x) e = no_slot s [] x e
no_start s (loop l no_trees) e = refl
no_start s (loop l (tree (segment x) ts)) e = no_slot s (use_of 0 0 ∷ []) x e
no_start s (loop l (tree (loop k us) ts)) e = refl
