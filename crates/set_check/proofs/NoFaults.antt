-- Under a guide without fault a body has no fault exactly where it is derived, no element is at fault by the derivation's slots, these
-- keep the dependencies, and the hierarchy is whole.
use Rattle.std.proofs.Common.{◌≡◌, ℕ, zero, suc, ◌+◌, inl, inr, List, [], ◌∷◌, map, Option, Some, None, refl, sym, ◌∙◌, ap, subst}
use Rattle.std.specs.List.{Contains, slice_get}
use Rattle.std.proofs.lemmas.Option.{slice_get_within, slice_get-get_or, get_or_from_slice_get}
use Rattle.hub_kinds.specs.declared.fault.Fault.{Fault}
use Rattle.hub_kinds.specs.declared.fault.ElemFault.{ElemFault}
use Rattle.guide_tree.specs.declared.slot.Slot.{Slot}
use Rattle.guide_tree.specs.Words.{Trees, GuideTree, Segment, Place, slot_at, slot_given, IsPlacing, placing_of, Given, Derives}
use Rattle.guide_tree.specs.Words.{IsStructureFault, IsWellFormed}
use Rattle.guide_law.specs.Law.{HasSlots, IsFaultless, DerivedIsPlaced, PlacedIsDerived, IsOnlyPlacing}
use Rattle.elem_rules.specs.ElementFaults.{IsElementFault}
use Rattle.set_check.specs.SetParts.{SetParts, end_position}
use Rattle.loop_match.specs.LoopIds.{loop_id_of}
use Rattle.hl_check.specs.Hierarchy.{IsHierarchyWhole, hl_segments}
use Rattle.hl_check.proofs.ForAbove.{hierarchy_whole}
use Rattle.depend_check.specs.Kept.{AreDependenciesKept}
use Rattle.depend_check.proofs.ForAbove.{dependencies_kept}
use Rattle.set_check.specs.SetFaults.{IsSetFault, IsErrorIn, IsRuleFault, fault_of_element}

-- a member stands at an index, and what stands at an index is a member
pub index_of : {X : Type 0} (xs : List X) (x : X) → Contains xs x → (i : ℕ) × (slice_get xs i ≡ Some x)
index_of xs x h = (h.0, slice_get-get_or xs h.0 x h.1 ∙ ap Some h.2)

pub member_at : {X : Type 0} (xs : List X) (i : ℕ) (x : X) → slice_get xs i ≡ Some x → Contains xs x
member_at xs i x e = (i, slice_get_within xs i x e, get_or_from_slice_get xs i x x e)

-- a place that leads to a slot
pub record Led (ts : Trees) (given : List (Option Place)) (i : ℕ) (slot : Slot) : Type 0 where
  pub place : Place
  pub placed : slice_get given i ≡ Some (Some place)
  pub leads : slot_at ts place ≡ Some slot

-- what a derivation gives a slot to stands at a place that leads there
led : (ts : Trees) (given : List (Option Place)) (xs : List Given) (i : ℕ) (x : Given) → HasSlots ts given xs
    → slice_get xs i ≡ Some x → Led ts given i x.1
led ts [] [] i x h e = let k : None ≡ Some x = e in cc
led ts [] (z ∷ xs) i x h e = cc
led ts (y ∷ given) [] i x h e = cc
led ts (None ∷ given) (z ∷ xs) zero x h e = cc
led ts (Some q ∷ given) (z ∷ xs) zero x h e =
    let s : slot_at ts q ≡ Some z.1 = cc in
    let same : z ≡ x = cc in
    record { place = q; placed = refl; leads = s ∙ ap (λ (w : Given). Some w.1) same }
led ts (y ∷ given) (z ∷ xs) (suc i) x h e =
    let tail : HasSlots ts given xs = cc in
    let r = led ts given xs i x tail e in
    record { place = r.place; placed = r.placed; leads = r.leads }

-- and the other way round
given_there : (ts : Trees) (given : List (Option Place)) (xs : List Given) (i : ℕ) (s : Segment) (q : Place) (slot : Slot)
    → HasSlots ts given xs → slice_get (map (λ (x : Given). x.0) xs) i ≡ Some s → slice_get given i ≡ Some (Some q)
    → slot_at ts q ≡ Some slot → slice_get xs i ≡ Some (s, slot)
given_there ts [] xs i s q slot h e p l = let k : None ≡ Some (Some q) = p in cc
given_there ts (y ∷ given) [] i s q slot h e p l = let k : None ≡ Some s = e in cc
given_there ts (y ∷ given) (z ∷ xs) zero s q slot h e p l =
    let same : y ≡ Some q = cc in
    let first : slot_given ts y ≡ Some z.1 = cc in
    let at : Some slot ≡ Some z.1 = sym l ∙ ap (slot_given ts) (sym same) ∙ first in
    let by : z.0 ≡ s = cc in
    let slots : z.1 ≡ slot = cc in
    ap (λ (w : Segment). Some (w, z.1)) by ∙ ap (λ (w : Slot). Some (s, w)) slots
given_there ts (y ∷ given) (z ∷ xs) (suc i) s q slot h e p l =
    let tail : HasSlots ts given xs = cc in
    given_there ts given xs i s q slot tail e p l

first_at : (xs : List Given) (i : ℕ) (x : Given) → slice_get xs i ≡ Some x → slice_get (map (λ (x : Given). x.0) xs) i ≡ Some x.0
first_at [] i x e = let k : None ≡ Some x = e in cc
first_at (z ∷ xs) zero x e = let k : z ≡ x = cc in ap (λ (w : Given). Some w.0) k
first_at (z ∷ xs) (suc i) x e = first_at xs i x e

body_at : (xs : List Given) (body : List Segment) (i : ℕ) (x : Given) → map (λ (x : Given). x.0) xs ≡ body
    → slice_get xs i ≡ Some x → slice_get body i ≡ Some x.0
body_at xs body i x b e = ap (λ (l : List Segment). slice_get l i) (sym b) ∙ first_at xs i x e

-- what is known of a body without fault
pub record Derived (g : GuideTree) (parts : SetParts) : Type 0 where
  pub slots : List Given
  pub body : map (λ x. x.0) slots ≡ parts.body
  pub derived : Derives g.nodes slots
  pub elements : (x : Given) (e : ElemFault) → Contains slots x → IsElementFault parts.delims x.0 x.1 e → ⊥
  pub hierarchy : IsHierarchyWhole g.hl parts.delims (hl_segments parts.body)
  pub dependencies : AreDependenciesKept g.depends parts.delims slots

placed_here : (g : GuideTree) (parts : SetParts) → IsOnlyPlacing g → IsPlacing g.nodes None parts.body (placing_of g.nodes parts.body)
placed_here g parts only = (only parts.body (placing_of g.nodes parts.body)).1 refl

error_at : (g : GuideTree) (parts : SetParts) (slots : List Given) → map (λ (x : Given). x.0) slots ≡ parts.body
    → HasSlots g.nodes (placing_of g.nodes parts.body) slots → (x : Given) (e : ElemFault) → Contains slots x
    → IsElementFault parts.delims x.0 x.1 e → (f : Fault) × IsErrorIn g.nodes parts (placing_of g.nodes parts.body) f
error_at g parts slots b k x e h w =
    let i = index_of slots x h in
    let l = led g.nodes (placing_of g.nodes parts.body) slots i.0 x k i.1 in (
      fault_of_element (i.0 + 2) x.0 (loop_id_of g.nodes l.place) x.1 e,
      record {
        index = i.0;
        segment = x.0;
        place = l.place;
        slot = x.1;
        elem = e;
        there = body_at slots parts.body i.0 x b i.1;
        placed = l.placed;
        leads = l.leads;
        wrong = w;
        is = refl;
      },
    )

module _ (g : GuideTree) (parts : SetParts) (well : IsWellFormed g) (only : IsOnlyPlacing g) where
  abbrev given_body : List (Option Place)
  given_body = placing_of g.nodes parts.body

  -- where no element is at fault, no fault of a hierarchy or dependency has the key of one
  no_rule_fault : ((f : Fault) → IsSetFault (Some g) parts f → ⊥) → (f : Fault)
      → IsRuleFault g parts.delims parts.body given_body (end_position parts) f → ⊥
  no_rule_fault none f h = none f (inr (inr (h, λ k. none k.0 (inr (inl k.1)))))

  pub faultless_derived : PlacedIsDerived g → ((f : Fault) → IsSetFault (Some g) parts f → ⊥) → Derived g parts
  faultless_derived placed none =
      let d = placed parts.body given_body (end_position parts) (placed_here g parts only) (λ f x. none f (inl x)) in
      record {
        slots = d.0;
        body = d.1;
        derived = d.2;
        elements = λ x e h w. let r = error_at g parts d.0 d.1 d.3 x e h w in none r.0 (inr (inl r.1));
        hierarchy = (hierarchy_whole g parts.delims d.0 parts.body given_body d.1 d.3).0 (λ f h. no_rule_fault none f (inl h));
        dependencies = (dependencies_kept g parts.delims d.0 parts.body given_body (end_position parts) well d.1 d.3).0
            (λ f h. no_rule_fault none f (inr h));
      }

  not_of_rules : (d : Derived g parts) → HasSlots g.nodes given_body d.slots → (f : Fault)
      → IsRuleFault g parts.delims parts.body given_body (end_position parts) f → ⊥
  not_of_rules d k f (inl h) = (hierarchy_whole g parts.delims d.slots parts.body given_body d.body k).1 d.hierarchy f h
  not_of_rules d k f (inr h) =
      (dependencies_kept g parts.delims d.slots parts.body given_body (end_position parts) well d.body k).1 d.dependencies f h

  refused : (d : Derived g parts) (f : Fault) → IsFaultless g (map (λ (x : Given). x.0) d.slots) given_body (end_position parts)
      → HasSlots g.nodes given_body d.slots → IsSetFault (Some g) parts f → ⊥
  refused d f none k (inl s) =
      none f (subst (λ (b : List Segment). IsStructureFault g b given_body (end_position parts) f) (sym d.body) s)
  refused d f none k (inr (inl r)) =
      let e : slice_get (map (λ (x : Given). x.0) d.slots) r.index ≡ Some r.segment =
      ap (λ (b : List Segment). slice_get b r.index) d.body ∙ r.there in
      let h = given_there g.nodes given_body d.slots r.index r.segment r.place r.slot k e r.placed r.leads in
      d.elements (r.segment, r.slot) r.elem (member_at d.slots r.index (r.segment, r.slot) h) r.wrong
  refused d f none k (inr (inr r)) = not_of_rules d k f r.0

  pub derived_faultless : DerivedIsPlaced g → Derived g parts → (f : Fault) → IsSetFault (Some g) parts f → ⊥
  derived_faultless derived d f x =
      let p = subst (λ (b : List Segment). IsPlacing g.nodes None b given_body) (sym d.body) (placed_here g parts only) in
      let k = derived d.slots given_body (end_position parts) d.derived p in
      refused d f k.0 k.1 x
