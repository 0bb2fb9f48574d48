-- A hierarchy that is whole by an old rule is whole by a wider one.
use Rattle.std.proofs.Common.{◌≡◌, ◌⊎◌, inl, inr, ℕ, List, [], ◌∷◌, Bool, true, false, refl, sym, ap, ◌∙◌, subst, Option, Some}
use Rattle.std.proofs.Common.{None, drop, take, length, arith}
use Rattle.std.specs.Prelude.{◌&&◌, ◌||◌, ◌+◌, not, decimal, is_some, is_none, if◌then◌else◌}
use Rattle.std.specs.List.{list_all, list_any}
use Rattle.std.specs.Option.{option_map_or}
use Rattle.std.specs.Str.{bytes_eq}
use Rattle.std.proofs.lemmas.Bool.{and_parts, and_cases, and_left, and_right, or_left, or_right}
use Rattle.x12_bytes.specs.declared.delims.Delims.{Delims}
use Rattle.guide_tree.specs.declared.rows.HlPair.{HlPair}
use Rattle.guide_tree.specs.declared.rows.HlRule.{HlRule}
use Rattle.guide_tree.proofs.ForAbove.{In, all_at, any_found}
use Rattle.guide_tree.specs.Words.{Segment}
use Rattle.elem_rules.specs.Divided.{is_filled}
use Rattle.hl_check.specs.Hierarchy.{IsHierarchyWhole, IsHlWhole, is_number_wrong, is_level_wrong, is_pair, is_listed, first_numbered}
use Rattle.hl_check.specs.Hierarchy.{hierarchical_id_of, parent_id_of, level_of}
use Rattle.guide_widening.specs.Nodes.{is_same_text}
use Rattle.guide_widening.specs.Rules.{is_same_pair, are_wider_pairs, is_wider_hierarchy}
use Rattle.widening_law.proofs.Given.{same_text}
use Rattle.widening_law.proofs.Listed.{same_texts}
use Rattle.widening_law.proofs.Values.{not_false, true_not}

same_pair : (p q : HlPair) → is_same_pair p q ≡ true → p ≡ q
same_pair p q h =
    let a = and_parts (is_same_text p.parent q.parent) (bytes_eq p.child q.child) h in
    ap (λ (x : Option (List ℕ)). record { parent = x; child = p.child }) (same_text p.parent q.parent a.0)
    ∙ ap (λ (x : List ℕ). record { parent = q.parent; child = x }) (same_texts p.child q.child a.1)

found : {X : Type 0} (test : X → Bool) (xs : List X) (x : X) → In xs x → test x ≡ true → list_any test xs ≡ true
found test [] x i h = absurd i
found test (y ∷ xs) x (inl e) h = or_left (test y) (list_any test xs) (ap test e ∙ h)
found test (y ∷ xs) x (inr i) h = or_right (test y) (list_any test xs) (found test xs x i h)

still_listed : (old new : HlRule) → are_wider_pairs old.pairs new.pairs ≡ true → (parent : Option (List ℕ)) (child : List ℕ)
    → is_listed old parent child ≡ true → is_listed new parent child ≡ true
still_listed old new h parent child l =
    let p = any_found (is_pair parent child) old.pairs l in
    let q = any_found (λ (after : HlPair). is_same_pair after p.one) new.pairs
    (all_at (λ (pair : HlPair). list_any (λ after. is_same_pair after pair) new.pairs) old.pairs p.one h p.among) in
    found (is_pair parent child) new.pairs q.one q.among (ap (is_pair parent child) (same_pair q.one p.one q.passes) ∙ p.passes)

module _ (old new : HlRule) (asks : (old.sequential || not new.sequential) ≡ true) (pairs : are_wider_pairs old.pairs new.pairs ≡ true)
    (delims : Delims) (earlier : List Segment) (h : Segment) where
  number_free : is_number_wrong old delims earlier h ≡ false → is_number_wrong new delims earlier h ≡ false
  number_free f = by old.sequential new.sequential asks (is_filled delims (hierarchical_id_of h))
      (is_some (first_numbered (hierarchical_id_of h) earlier))
      (not (bytes_eq (hierarchical_id_of h) (decimal (length earlier + 1)))) f
    where
      by : (a b : Bool) → (a || not b) ≡ true → (x y z : Bool) → (x && (y || (a && z))) ≡ false → (x && (y || (b && z))) ≡ false
      by a b o x y z f = grind arith

  not_listed : (parent : Option (List ℕ)) (child : List ℕ) → not (is_listed old parent child) ≡ false
      → not (is_listed new parent child) ≡ false
  not_listed parent child f =
      true_not (is_listed new parent child)
      (still_listed old new pairs parent child (not_false (is_listed old parent child) f))

  level_free : is_level_wrong old delims earlier h ≡ false → is_level_wrong new delims earlier h ≡ false
  level_free f = by (is_filled delims (parent_id_of h)) (first_numbered (parent_id_of h) earlier) f
    where
      by : (b : Bool) (o : Option Segment)
          → (if b then option_map_or (λ p. not (is_listed old (Some (level_of p)) (level_of h))) o false
          else not (is_listed old None (level_of h))) ≡ false
          → (if b then option_map_or (λ p. not (is_listed new (Some (level_of p)) (level_of h))) o false
          else not (is_listed new None (level_of h))) ≡ false
      by true None f = refl
      by true (Some p) f = not_listed (Some (level_of p)) (level_of h) f
      by false o f = not_listed None (level_of h) f

pub hierarchy_free : (old new : Option HlRule) (delims : Delims) (hls : List Segment) → is_wider_hierarchy old new ≡ true
    → IsHierarchyWhole old delims hls → IsHierarchyWhole new delims hls
hierarchy_free old None delims hls h w = tt
hierarchy_free None (Some new) delims hls h w = cc
hierarchy_free (Some old) (Some new) delims hls h w =
    let p = and_parts (old.sequential || not new.sequential) (are_wider_pairs old.pairs new.pairs) h in
    λ count one there. let k = w count one there in (
      number_free old new p.0 p.1 delims (take count hls) one k.0,
      k.1,
      level_free old new p.0 p.1 delims (take count hls) one k.2,
      k.3,
    )
