-- How a derived list begins.
use Rattle.std.proofs.Common.{◌≡◌, IsTrue, ℕ, suc, ◌≤◌, List, [], ◌∷◌, ◌++◌, length, Some, refl, sym, ◌∙◌, ap, subst}
use Rattle.std.proofs.Common.{arith, append_assoc}
use Rattle.std.specs.List.{AllByRecursion}
use Rattle.guide_tree.specs.declared.slot.Slot.{Slot}
use Rattle.guide_tree.specs.declared.node.Loop.{Loop}
use Rattle.guide_tree.specs.Words.{fits, Tree, Trees, segment, loop, no_trees, tree, Given, IsPart, Derives, joined, Place, use_of}
use Rattle.guide_tree.specs.Words.{slot_in, slot_nth}
use Rattle.guide_law.proofs.Residual.{Triggered, AllTriggered, AfterIn, After, IsStart, Enters}

-- a part begins with a segment at the part's start, and the rest of the part comes after it
pub record Starts (t : Tree) (part : List Given) : Type 0 where
  pub first : Given
  pub later : List Given
  pub place : Place
  pub is : part ≡ first ∷ later
  pub start : IsStart t place
  pub slot : slot_in t place ≡ Some first.1
  pub fit : IsTrue (fits first.1 first.0)
  pub after : AfterIn t place later

trigger_starts : (l : Loop) (p : Slot) (ts : Trees) (part : List Given) (parts : List (List Given)) (rest : List Given)
    → p.min ≡ 1 → p.max ≡ 1 → p.min ≤ length parts → length parts ≤ p.max
    → AllByRecursion (IsPart (segment p)) parts → Derives ts rest
    → part ≡ joined parts ++ rest → Starts (loop l (tree (segment p) ts)) part
trigger_starts l p ts part [] rest ha hb least most all d e = absurd (omega arith)
trigger_starts l p ts part (y ∷ z ∷ zs) rest ha hb least most all d e = absurd (omega arith)
trigger_starts l p ts part (y ∷ []) rest ha hb least most ((s, f, ey), u) d e = record {
  first = (s, p);
  later = rest;
  place = use_of 0 0 ∷ [];
  is = e ∙ rw ey refl;
  start = ((refl, refl), refl);
  slot = refl;
  fit = f;
  after = ([], [], rest, omega arith, omega arith, refl, tt, d, refl);
}

pub part_starts : (t : Tree) (part : List Given) → Triggered t → IsPart t part → Starts t part
part_starts (segment p) part h (s, f, e) = record {
  first = (s, p);
  later = [];
  place = [];
  is = e;
  start = tt;
  slot = refl;
  fit = f;
  after = refl;
}
part_starts (loop l no_trees) part h d = absurd h.0
part_starts (loop l (tree (loop other us) ts)) part h d = absurd h.0
part_starts (loop l (tree (segment p) ts)) part h (parts, rest, least, most, all, d, e) =
    trigger_starts l p ts part parts rest h.0.0 h.0.1 least most all d e

-- a derived list that isn't empty begins at a child that may be come to, and the rest comes after it
pub record Begins (ts : Trees) (x : Given) (xs : List Given) : Type 0 where
  pub child : ℕ
  pub place : Place
  pub enters : Enters ts child place
  pub slot : slot_nth ts child place ≡ Some x.1
  pub fit : IsTrue (fits x.1 x.0)
  pub after : After ts child 0 place xs

pub tail_is : (x y : Given) (xs ys : List Given) → x ∷ xs ≡ y ∷ ys → (x ≡ y) × (xs ≡ ys)
tail_is x y xs ys h = (cc, cc)

pub derived_begins : (ts : Trees) (x : Given) (xs : List Given) → AllTriggered ts → Derives ts (x ∷ xs)
    → Begins ts x xs
derived_begins no_trees x xs h d = cc
derived_begins (tree t ts) x xs h ([], rest, least, most, all, d, e) =
    let b = derived_begins ts x xs h.1 (subst (λ (l : List Given). Derives ts l) (sym e) d) in
    record {
      child = suc b.child;
      place = b.place;
      enters = (omega arith, b.enters);
      slot = b.slot;
      fit = b.fit;
      after = b.after;
    }
derived_begins (tree t ts) x xs h (part ∷ parts, rest, least, most, all, d, e) =
    let s = part_starts t part h.0 all.0 in
    let both : (x ≡ s.first) × (xs ≡ s.later ++ (joined parts ++ rest)) =
    tail_is x s.first xs (s.later ++ (joined parts ++ rest))
    (e ∙ append_assoc part (joined parts) rest ∙ ap (λ (l : List Given). l ++ (joined parts ++ rest)) s.is) in
    record {
      child = 0;
      place = s.place;
      enters = (omega arith, s.start);
      slot = s.slot ∙ ap (λ (g : Given). Some g.1) (sym both.0);
      fit = subst (λ (g : Given). IsTrue (fits g.1 g.0)) (sym both.0) s.fit;
      after = (s.later, parts, rest, omega arith, omega arith, s.after, all.1, d, both.1);
    }
