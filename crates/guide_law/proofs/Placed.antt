-- A guide that has no fault: each loop has a trigger, and a body has one placing.
use Rattle.std.proofs.Common.{◌≡◌, List, [], ◌∷◌, Option, Some, None, true}
use Rattle.std.proofs.Common.{refl, sym, ◌∙◌, ap, subst, arith}
use Rattle.std.proofs.lemmas.Bool.Decides.{nat_tests}
use Rattle.guide_tree.specs.declared.fault.GuideFault.TheVariants as fault
use Rattle.guide_tree.specs.declared.slot.Slot.{Slot}
use Rattle.guide_tree.specs.Words.{Tree, Trees, segment, loop, no_trees, tree, GuideTree, EachIn, EachNode, is_once, has_trigger}
use Rattle.guide_tree.specs.Words.{is_triggered, IsWellFormed, IsPlaceOrBeginning, Segment, Place, IsPlacing}
use Rattle.guide_law.specs.Law.{IsPlacedOneWay}
use Rattle.guide_tree.proofs.ForAbove.{each_passes}
use Rattle.guide_law.proofs.Residual.{HasTrigger, Triggered, AllTriggered}
use Rattle.guide_law.proofs.Meeting.{HasNoRivals, one_place}

once : (s : Slot) → is_once s ≡ true → (s.min ≡ 1) × (s.max ≡ 1)
once s h = (grind (arith, nat_tests), grind (arith, nat_tests))

has_it : (ts : Trees) → has_trigger ts ≡ true → HasTrigger ts
has_it no_trees h = cc
has_it (tree (segment s) ts) h = once s h
has_it (tree (loop l us) ts) h = cc

mutual
  triggered_in : (t : Tree) → EachIn (λ u. is_triggered u ≡ true) t → Triggered t
  triggered_in (segment s) h = tt
  triggered_in (loop l ts) h = (has_it ts h.0, all_triggered ts h.1)

  all_triggered : (ts : Trees) → EachNode (λ u. is_triggered u ≡ true) ts → AllTriggered ts
  all_triggered no_trees h = tt
  all_triggered (tree t ts) h = (triggered_in t h.0, all_triggered ts h.1)

pub triggers : (g : GuideTree) → IsWellFormed g → AllTriggered g.nodes
triggers g w = all_triggered g.nodes (each_passes is_triggered g.nodes (λ k x. w (fault.BadTrigger k) x))

pub no_rivals : (g : GuideTree) → IsWellFormed g → HasNoRivals g.nodes
no_rivals g w a b x = w (fault.Ambiguous a b) x

one_placing : (ts : Trees) (last : Option Place) (body : List Segment) (given other : List (Option Place))
    → HasNoRivals ts → IsPlaceOrBeginning ts last
    → IsPlacing ts last body given → IsPlacing ts last body other → given ≡ other
one_placing ts last [] [] [] none at p q = refl
one_placing ts last [] [] (y ∷ other) none at p q = absurd q
one_placing ts last [] (x ∷ given) other none at p q = absurd p
one_placing ts last (s ∷ body) [] other none at p q = absurd p
one_placing ts last (s ∷ body) (x ∷ given) [] none at p q = absurd q
one_placing ts last (s ∷ body) (None ∷ given) (None ∷ other) none at p q =
    ap (λ (l : List (Option Place)). None ∷ l) (one_placing ts last body given other none at p.1 q.1)
one_placing ts last (s ∷ body) (None ∷ given) (Some w ∷ other) none at p q = absurd (p.0 w q.0 q.1)
one_placing ts last (s ∷ body) (Some v ∷ given) (None ∷ other) none at p q = absurd (q.0 v p.0 p.1)
one_placing ts last (s ∷ body) (Some v ∷ given) (Some w ∷ other) none at p q =
    let same : v ≡ w = one_place ts last v w s none at p.0 q.0 p.1 q.1 in
    let rest =
    one_placing ts (Some v) body given other none (p.1.0, p.1.1) p.2
    (subst (λ (z : Place). IsPlacing ts (Some z) body other) (sym same) q.2) in
    ap (λ (z : Place). Some z ∷ given) same ∙ ap (λ (l : List (Option Place)). Some w ∷ l) rest

pub placed_one_way : (g : GuideTree) → IsWellFormed g → IsPlacedOneWay g
placed_one_way g w body given other p q = one_placing g.nodes None body given other (no_rivals g w) tt p q
