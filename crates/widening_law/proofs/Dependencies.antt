-- Segments that keep old dependencies keep those that ask no more, by wider slots.
use Rattle.std.proofs.Common.{◌≡◌, inl, inr, ℕ, zero, suc, List, [], ◌∷◌, Bool, true, refl, sym, ap, ◌∙◌, subst}
use Rattle.std.specs.Prelude.{◌&&◌, ◌||◌, ◌==◌}
use Rattle.std.specs.List.{Contains, list_all, list_any}
use Rattle.std.specs.Str.{bytes_eq}
use Rattle.std.proofs.lemmas.Bool.{and_parts, and_from, or_left, or_right, eqb-true}
use Rattle.hub_kinds.specs.Words.{contains_text}
use Rattle.x12_bytes.specs.declared.delims.Delims.{Delims}
use Rattle.guide_tree.specs.declared.rows.Dependency.{Dependency}
use Rattle.guide_tree.specs.declared.rows.DependencyKind.{DependencyKind}
use Rattle.guide_tree.specs.declared.rows.DependencyKind.TheVariants.{Need, Ban}
use Rattle.guide_tree.specs.Words.{Given, Segment, element_at}
use Rattle.guide_tree.proofs.ForAbove.{In, all_at, any_found}
use Rattle.guide_law.proofs.ForAbove.{contains_in}
use Rattle.depend_check.specs.Standing.{stands_at, fills, triggers}
use Rattle.depend_check.specs.Kept.{IsTargetKept, AreDependenciesKept}
use Rattle.guide_widening.specs.Rules.{asks_same, is_code_asked, is_dependency_kept, is_same_kind, are_wider_dependencies}
use Rattle.widening_law.proofs.Given.{was, same_label}
use Rattle.widening_law.proofs.Listed.{all_of, any_of, same_texts}
use Rattle.widening_law.proofs.Nodes.{AreWider}

same_kind : (a b : DependencyKind) → is_same_kind a b ≡ true → a ≡ b
same_kind Need Need h = refl
same_kind Need Ban h = cc
same_kind Ban Need h = cc
same_kind Ban Ban h = refl

record IsSame (one other : Dependency) : Type 0 where
  kind : one.kind ≡ other.kind
  at : one.at ≡ other.at
  element : one.element ≡ other.element
  slot : one.slot ≡ other.slot
  target : one.target ≡ other.target

same : (one other : Dependency) → asks_same one other ≡ true → IsSame one other
same one other h =
    let a = and_parts (is_same_kind one.kind other.kind) _ h in
    let b = and_parts (one.at == other.at) _ a.1 in
    let c = and_parts (one.element == other.element) _ b.1 in
    let d = and_parts (bytes_eq one.slot other.slot) _ c.1 in
    record {
      kind = same_kind one.kind other.kind a.0;
      at = eqb-true one.at other.at b.0;
      element = eqb-true one.element other.element c.0;
      slot = same_texts one.slot other.slot d.0;
      target = same_texts one.target other.target d.1;
    }

-- the slots' labels are the same
any_stands : (label : List ℕ) (xs ys : List Given) → AreWider xs ys → list_any (stands_at label) xs ≡ list_any (stands_at label) ys
any_stands label [] [] w = refl
any_stands label [] (y ∷ ys) w = absurd w
any_stands label (x ∷ xs) [] w = absurd w
any_stands label (x ∷ xs) (y ∷ ys) w =
    ap (λ (b : Bool). b || list_any (stands_at label) xs) (same_label x.1 y.1 w.1 label)
    ∙ ap (λ (b : Bool). stands_at label y || b) (any_stands label xs ys w.2)

target_free : (delims : Delims) (xs ys : List Given) → AreWider xs ys → (label : List ℕ) (kind : DependencyKind) (element : ℕ)
    → IsTargetKept delims xs label kind element → IsTargetKept delims ys label kind element
target_free delims xs ys w label Need zero k = sym (any_stands label xs ys w) ∙ k
target_free delims xs ys w label Ban zero k = sym (any_stands label xs ys w) ∙ k
target_free delims xs ys w label Need (suc e) k = λ y there stands.
    let x = was xs ys y w there in
    sym (ap (λ (s : Segment). fills delims (suc e) (s, y.1)) x.segment)
    ∙ k x.given x.listed (same_label x.given.1 y.1 x.wider label ∙ stands)
target_free delims xs ys w label Ban (suc e) k = λ y there stands.
    let x = was xs ys y w there in
    sym (ap (λ (s : Segment). fills delims (suc e) (s, y.1)) x.segment)
    ∙ k x.given x.listed (same_label x.given.1 y.1 x.wider label ∙ stands)

any_at : {X : Type 0} (test : X → Bool) (xs : List X) (x : X) → In xs x → test x ≡ true → list_any test xs ≡ true
any_at test [] x there h = absurd there
any_at test (y ∷ ys) x (inl e) h = or_left (test y) (list_any test ys) (ap test e ∙ h)
any_at test (y ∷ ys) x (inr there) h = or_right (test y) (list_any test ys) (any_at test ys x there h)

-- a text of a list each of which passes a test passes it
passes : (test : List ℕ → Bool) (texts : List (List ℕ)) (text : List ℕ) → list_all test texts ≡ true → contains_text texts text ≡ true
    → test text ≡ true
passes test texts text all there =
    let r = any_found (λ t. bytes_eq t text) texts there in
    subst (λ (t : List ℕ). test t ≡ true) (same_texts r.one text r.passes) (all_at test texts r.one all r.among)

-- a slot that has a code by one dependency has it by the same of other codes, if these have the code
still_triggers : (old new : Dependency) → IsSame old new → (xs ys : List Given) → AreWider xs ys → (y : Given) → Contains ys y
    → stands_at new.slot y ≡ true → contains_text old.codes (element_at y.0 new.at) ≡ true → list_any (triggers old) xs ≡ true
still_triggers old new l xs ys w y there stands listed =
    let x = was xs ys y w there in
    let text : element_at x.given.0 old.at ≡ element_at y.0 new.at =
    ap (λ (s : Segment). element_at s old.at) x.segment ∙ ap (element_at y.0) l.at in
    any_at (triggers old) xs x.given (contains_in xs x.given x.listed)
    (and_from (stands_at old.slot x.given) (contains_text old.codes (element_at x.given.0 old.at))
    (same_label x.given.1 y.1 x.wider old.slot ∙ ap (λ (t : List ℕ). stands_at t y) l.slot ∙ stands)
    (ap (contains_text old.codes) text ∙ listed))

pub dependencies_free : (old new : List Dependency) (delims : Delims) (xs ys : List Given) → are_wider_dependencies old new ≡ true
    → AreWider xs ys → AreDependenciesKept old delims xs → AreDependenciesKept new delims ys
dependencies_free old new delims xs ys h w kept d there triggered =
    let t = any_of (triggers d) ys triggered in
    let code = element_at t.one.0 d.at in
    let p = and_parts (stands_at d.slot t.one) (contains_text d.codes code) t.passes in
    let asked = passes (is_code_asked old d) d.codes code (all_of (is_dependency_kept old) new d h there) p.1 in
    let m = any_of (λ (other : Dependency). asks_same other d && contains_text other.codes code) old asked in
    let q = and_parts (asks_same m.one d) (contains_text m.one.codes code) m.passes in
    let l = same m.one d q.0 in
    let k = kept m.one m.among (still_triggers m.one d l xs ys w t.one t.among p.0 q.1) in
    subst (λ (n : ℕ). IsTargetKept delims ys d.target d.kind n) l.element
    (subst (λ (kind : DependencyKind). IsTargetKept delims ys d.target kind m.one.element) l.kind
    (subst (λ (label : List ℕ). IsTargetKept delims ys label m.one.kind m.one.element) l.target
    (target_free delims xs ys w m.one.target m.one.kind m.one.element k)))
