-- What old nodes derive is derived by wider ones, each segment with a slot that is wider than its own.
use Rattle.std.proofs.Common.{◌≡◌, ℕ, zero, suc, ◌+◌, ◌≤◌, ◌⊎◌, inl, inr, List, [], ◌∷◌, ◌++◌, Bool, true, false, length, map}
use Rattle.std.proofs.Common.{refl, sym, ap, ◌∙◌, subst, arith}
use Rattle.std.specs.Prelude.{◌&&◌, ◌==◌, nat_le, if◌then◌else◌}
use Rattle.std.specs.List.{AllByRecursion, list_all, list_any}
use Rattle.std.specs.Str.{bytes_eq}
use Rattle.std.proofs.lemmas.Bool.{and_parts, and_from, leb-true, eqb-true}
use Rattle.hub_kinds.specs.Words.{contains_text}
use Rattle.guide_tree.specs.declared.slot.Slot.{Slot}
use Rattle.guide_tree.specs.declared.slot.Pick.{Pick}
use Rattle.guide_tree.specs.declared.node.Loop.{Loop}
use Rattle.guide_tree.proofs.ForAbove.{In, all_at, any_found}
use Rattle.guide_tree.specs.Words.{Tree, Trees, segment, loop, no_trees, tree, min_of, max_of, Segment, segment_id, element_at}
use Rattle.guide_tree.specs.Words.{fits, Given, IsPart, Derives, joined}
use Rattle.guide_widening.specs.Rows.{are_texts_of, is_wider_range}
use Rattle.guide_widening.specs.Nodes.{is_wider_pick, are_wider_picks, is_wider_slot, is_wider_loop, is_same_node, is_wider_node}
use Rattle.guide_widening.specs.Nodes.{are_wider_nodes}
use Rattle.widening_law.proofs.Listed.{among, same_texts}
use Rattle.widening_law.proofs.Slots.{IsWiderSlot, slot_parts}

-- the same segments, each with a slot that is wider than its own
abbrev pub AreWider : (old new : List Given) → Type 0
AreWider [] [] = Unit {0}
AreWider [] (y ∷ ys) = ⊥
AreWider (x ∷ xs) [] = ⊥
AreWider (x ∷ xs) (y ∷ ys) = (x.0 ≡ y.0) × (is_wider_slot x.1 y.1 ≡ true) × AreWider xs ys

pub record Widened (P : List Given → Type 0) (xs : List Given) : Type 0 where
  pub given : List Given
  pub wider : AreWider xs given
  pub holds : P given

wider_append : (xs ys zs ws : List Given) → AreWider xs ys → AreWider zs ws → AreWider (xs ++ zs) (ys ++ ws)
wider_append [] [] zs ws a b = b
wider_append [] (y ∷ ys) zs ws a b = absurd a
wider_append (x ∷ xs) [] zs ws a b = absurd a
wider_append (x ∷ xs) (y ∷ ys) zs ws a b = (a.0, a.1, wider_append xs ys zs ws a.2 b)

-- a segment that fits a slot fits a wider one
picks_fit : (old new : List Pick) (s : Segment) → are_wider_picks old new ≡ true
    → list_all (λ (p : Pick). contains_text p.codes (element_at s p.position)) old ≡ true
    → list_all (λ (p : Pick). contains_text p.codes (element_at s p.position)) new ≡ true
picks_fit old [] s h f = refl
picks_fit old (p ∷ new) s h f =
    let a = and_parts (list_any (λ (q : Pick). is_wider_pick q p) old) (are_wider_picks old new) h in
    let m = any_found (λ (q : Pick). is_wider_pick q p) old a.0 in
    let q = and_parts (m.one.position == p.position) (are_texts_of p.codes m.one.codes) m.passes in
    let there = all_at (λ (p : Pick). contains_text p.codes (element_at s p.position)) old m.one f m.among in
    let at : m.one.position ≡ p.position = eqb-true m.one.position p.position q.0 in
    let here : contains_text m.one.codes (element_at s p.position) ≡ true =
    subst (λ (k : ℕ). contains_text m.one.codes (element_at s k) ≡ true) at there in
    and_from (contains_text p.codes (element_at s p.position)) _ (among p.codes m.one.codes (element_at s p.position) q.1 here)
    (picks_fit old new s a.1 f)

pub slot_fits : (old new : Slot) (s : Segment) → is_wider_slot old new ≡ true → fits old s ≡ true → fits new s ≡ true
slot_fits old new s h f =
    let w = slot_parts old new h in
    let p = and_parts (bytes_eq old.id (segment_id s)) _ f in
    let id : old.id ≡ new.id = same_texts old.id new.id w.id in
    and_from (bytes_eq new.id (segment_id s)) _ (subst (λ (i : List ℕ). bytes_eq i (segment_id s) ≡ true) id p.0)
    (picks_fit old.picks new.picks s w.picks p.1)

record HasUses (t u : Tree) : Type 0 where
  least : min_of u ≤ min_of t
  most : max_of t ≤ max_of u

range_uses : (a b c d : ℕ) → is_wider_range a b c d ≡ true → (c ≤ a) × (b ≤ d)
range_uses a b c d h = let p = and_parts (nat_le c a) (nat_le b d) h in (leb-true c a p.0, leb-true b d p.1)

node_uses : (t u : Tree) → is_wider_node t u ≡ true → HasUses t u
node_uses (segment s) (segment t) h =
    let r = range_uses s.min s.max t.min t.max (slot_parts s t h).range in record { least = r.0; most = r.1 }
node_uses (segment s) (loop k us) h = cc
node_uses (loop l ts) (segment t) h = cc
node_uses (loop l ts) (loop k us) h =
    let p = and_parts (is_wider_loop l k) (are_wider_nodes ts us) h in
    let q = and_parts (bytes_eq l.id k.id) (is_wider_range l.min l.max k.min k.max) p.0 in
    let r = range_uses l.min l.max k.min k.max q.1 in
    record { least = r.0; most = r.1 }

if_cases : (b x y : Bool) → (if b then x else y) ≡ true → (x ≡ true) ⊎ (y ≡ true)
if_cases true x y h = inl h
if_cases false x y h = inr h

-- each of some parts
record Parts (u : Tree) (parts : List (List Given)) : Type 0 where
  own : List (List Given)
  many : length own ≡ length parts
  each : AllByRecursion (IsPart u) own
  wider : AreWider (joined parts) (joined own)

each_part : (t u : Tree) (parts : List (List Given)) → ((xs : List Given) → IsPart t xs → Widened (IsPart u) xs)
    → AllByRecursion (IsPart t) parts → Parts u parts
each_part t u [] f all = record { own = []; many = refl; each = tt; wider = tt }
each_part t u (xs ∷ parts) f all =
    let x = f xs all.0 in
    let r = each_part t u parts f all.1 in
    record {
      own = x.given ∷ r.own;
      many = ap suc r.many;
      each = (x.holds, r.each);
      wider = wider_append xs x.given (joined parts) (joined r.own) x.wider r.wider;
    }

-- a node that may be absent is absent
absent : (u : Tree) (us : Trees) (xs : List Given) → (min_of u == 0) ≡ true → Widened (Derives us) xs
    → Widened (Derives (tree u us)) xs
absent u us xs h w =
    let none : min_of u ≡ 0 = eqb-true (min_of u) 0 h in
    record {
      given = w.given;
      wider = w.wider;
      holds = ([], w.given, (omega arith), (omega arith), tt, w.holds, refl);
    }

there : (t u : Tree) (ts us : Trees) (xs : List Given) → HasUses t u
    → ((xs : List Given) → IsPart t xs → Widened (IsPart u) xs)
    → ((xs : List Given) → Derives ts xs → Widened (Derives us) xs) → Derives (tree t ts) xs → Widened (Derives (tree u us)) xs
there t u ts us xs uses part rest (parts, left, least, most, each, derived, is) =
    let p = each_part t u parts part each in
    let r = rest left derived in
    record {
      given = joined p.own ++ r.given;
      wider = subst (λ (l : List Given). AreWider l (joined p.own ++ r.given)) (sym is)
          (wider_append (joined parts) (joined p.own) left r.given p.wider r.wider);
      holds = (p.own, r.given, (omega (arith, uses.least, p.many)), (omega (arith, uses.most, p.many)), p.each, r.holds, refl);
    }

mutual
  pub part_wider : (t u : Tree) (xs : List Given) → is_wider_node t u ≡ true → IsPart t xs → Widened (IsPart u) xs
  part_wider (segment old) (segment new) xs h (s, f, is) = record {
    given = (s, new) ∷ [];
    wider = subst (λ (l : List Given). AreWider l ((s, new) ∷ [])) (sym is) (refl, h, tt);
    holds = (s, slot_fits old new s h f, refl);
  }
  part_wider (segment old) (loop k us) xs h p = cc
  part_wider (loop l ts) (segment new) xs h p = cc
  part_wider (loop l ts) (loop k us) xs h p =
      let w = nodes_wider ts us xs (and_parts (is_wider_loop l k) (are_wider_nodes ts us) h).1 p in
      record { given = w.given; wider = w.wider; holds = w.holds }

  pub nodes_wider : (ts us : Trees) (xs : List Given) → are_wider_nodes ts us ≡ true → Derives ts xs → Widened (Derives us) xs
  nodes_wider no_trees no_trees xs h d = record {
    given = [];
    wider = subst (λ (l : List Given). AreWider l []) (sym d) tt;
    holds = refl;
  }
  nodes_wider no_trees (tree u us) xs h d =
      let p = and_parts (min_of u == 0) (are_wider_nodes no_trees us) h in
      absent u us xs p.0 (nodes_wider no_trees us xs p.1 d)
  nodes_wider (tree t ts) no_trees xs h d = cc
  nodes_wider (tree t ts) (tree u us) xs h d =
      elim (if_cases (is_same_node t u) (is_wider_node t u && are_wider_nodes ts us)
      ((min_of u == 0) && are_wider_nodes (tree t ts) us) h) [
        | inl e ↦ (let p = and_parts (is_wider_node t u) (are_wider_nodes ts us) e in
            there t u ts us xs (node_uses t u p.0) (λ ys k. part_wider t u ys p.0 k) (λ ys k. nodes_wider ts us ys p.1 k) d)
        | inr e ↦ (let p = and_parts (min_of u == 0) (are_wider_nodes (tree t ts) us) e in
            absent u us xs p.0 (nodes_wider (tree t ts) us xs p.1 d))
      ]
