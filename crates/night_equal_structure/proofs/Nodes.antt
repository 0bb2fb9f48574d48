-- Where a place of the layers leads: from the root, and from a parent on the way.
use Rattle.std.proofs.Common.{◌≡◌, ℕ, suc, ◌+◌, List, [], ◌∷◌, ◌++◌, Option, Some, refl, ap, ◌∙◌, arith}
use Rattle.std.proofs.lemmas.List.{append_assoc}
use Rattle.hub_kinds.specs.declared.codes.SegmentCode.{SegmentCode}
use Rattle.guide_tree.specs.Tree.{Tree, Trees, segment, loop, no_trees, tree}
use Rattle.guide_tree.specs.Tree as old_tree
use Rattle.guide_tree.specs.declared.node.Loop.{Loop}
use Rattle.guide_tree.specs.Places.{use_of}
use Rattle.guide_tree.specs.Places as old
use Rattle.guide_tree.specs.Structure.{node_in, node_nth, node_at, loop_id_at, IsThere}
use Rattle.guide_tree.specs.Structure as old_faults
use Rattle.night_definition.specs.Guides.{min_of, max_of}
use Rattle.night_definition.specs.Places.{Place}
use Rattle.night_definition.specs.Structure.{node_fault, past_code, few_code}
use Rattle.night_equal_set.specs.Placings.{place}
use Rattle.night_equal_structure.proofs.Given.{given}
use Rattle.night_equal_structure.proofs.Uses.{place_use}
use Rattle.night_equal_structure.proofs.Inner.{HasUse}

pub min_same : (t : Tree) → min_of t ≡ old_tree.min_of t
min_same (segment s) = refl
min_same (loop l ts) = refl

pub max_same : (t : Tree) → max_of t ≡ old_tree.max_of t
max_same (segment s) = refl
max_same (loop l ts) = refl

pub past_same : (t : Tree) → past_code t ≡ old_faults.past_code t
past_same (segment s) = refl
past_same (loop l ts) = refl

pub few_same : (t : Tree) → few_code t ≡ old_faults.few_code t
few_same (segment s) = refl
few_same (loop l ts) = refl

pub fault_same : (root : Trees) (parent : old.Place) (t : Tree) (n : ℕ) (code : SegmentCode)
    → node_fault (loop_id_at root parent) t n code ≡ old_faults.node_fault root n code parent t
fault_same root parent (segment s) n code = refl
fault_same root parent (loop l no_trees) n code = refl
fault_same root parent (loop l (tree (segment s) ts)) n code = refl
fault_same root parent (loop l (tree (loop k us) ts)) n code = refl

pub node_itself : (t : Tree) → node_in t [] ≡ Some t
node_itself (segment s) = refl
node_itself (loop l ts) = refl

loop_named : (root : Trees) (q : old.Place) (l : Loop) (us : Trees) → node_at root q ≡ Some (loop l us) → l.id ≡ loop_id_at root q
loop_named root q l us e = rw e refl

-- the children from child k on of the parent at a place, with the parent's loop id
pub record Leads (root : Trees) (pre : Place) (outer : List ℕ) (ts : Trees) (k : ℕ) : Type 0 where
  pub stands : (j n u : ℕ) (q : old.Place) → j ≡ k + n → node_at root (place pre ++ use_of j u ∷ q) ≡ node_nth ts n q
  pub named : outer ≡ loop_id_at root (place pre)

pub leads_root : (root : Trees) → Leads root [] [] root 0
leads_root root = record {
  stands = λ j n u q e. let f : j ≡ n = omega arith in ap (λ (m : ℕ). node_nth root m q) f;
  named = refl;
}

pub leads_next : (root : Trees) (pre : Place) (outer : List ℕ) (t : Tree) (ts : Trees) (k : ℕ) → Leads root pre outer (tree t ts) k
    → Leads root pre outer ts (k + 1)
leads_next root pre outer t ts k l = record {
  stands = λ j n u q e. l.stands j (suc n) u q (omega arith);
  named = l.named;
}

pub leads_under : (root : Trees) (pre : Place) (outer : List ℕ) (l : Loop) (us ts : Trees) (k u : ℕ)
    → Leads root pre outer (tree (loop l us) ts) k → Leads root (pre ++ (k, u) ∷ []) l.id us 0
leads_under root pre outer l us ts k u leads = record {
  stands = λ j n v q e. let f : j ≡ n = omega arith in
      ap (λ p. node_at root (p ++ use_of j v ∷ q)) (place_use pre k u)
      ∙ ap (λ p. node_at root p) (append_assoc (place pre) (use_of k u ∷ []) (use_of j v ∷ q))
      ∙ leads.stands k 0 u (use_of j v ∷ q) (omega arith)
      ∙ ap (λ m. node_nth us m q) f;
  named = loop_named root (place (pre ++ (k, u) ∷ [])) l us
      (ap (λ p. node_at root p) (place_use pre k u) ∙ leads.stands k 0 u [] (omega arith));
}

pub use_there : (g : List (Option Place)) (pre : Place) (k u : ℕ) → HasUse g pre k u → IsThere (given g) (place (pre ++ (k, u) ∷ []))
use_there g [] k u h = h
use_there g (a ∷ pre) k u h = h
