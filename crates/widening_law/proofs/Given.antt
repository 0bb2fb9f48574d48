-- Segments with their slots, and the same segments with wider ones.
use Rattle.std.proofs.Common.{◌≡◌, ℕ, subst, ◌⊎◌, inl, inr, List, [], ◌∷◌, Bool, true, map, refl, sym, ap, ◌∙◌, Option, Some, None}
use Rattle.std.specs.List.{Contains}
use Rattle.hub_kinds.specs.declared.fault.ElemFault.{ElemFault}
use Rattle.x12_bytes.specs.declared.delims.Delims.{Delims}
use Rattle.guide_tree.proofs.ForAbove.{In}
use Rattle.guide_law.proofs.ForAbove.{contains_in, in_contains}
use Rattle.guide_tree.specs.declared.slot.Slot.{Slot}
use Rattle.guide_tree.specs.Words.{Given, Segment, has_label}
use Rattle.elem_rules.specs.ElementFaults.{IsElementFault}
use Rattle.guide_widening.specs.Nodes.{is_wider_slot, is_same_text}
use Rattle.widening_law.proofs.Listed.{same_texts}
use Rattle.widening_law.proofs.Nodes.{AreWider}
use Rattle.widening_law.proofs.Slots.{slot_parts, slot_free}

-- the segment with the slot that it had
pub record Was (xs : List Given) (y : Given) : Type 0 where
  pub given : Given
  pub listed : Contains xs given
  pub segment : given.0 ≡ y.0
  pub wider : is_wider_slot given.1 y.1 ≡ true

record WasIn (xs : List Given) (y : Given) : Type 0 where
  given : Given
  listed : In xs given
  segment : given.0 ≡ y.0
  wider : is_wider_slot given.1 y.1 ≡ true

was_in : (xs ys : List Given) (y : Given) → AreWider xs ys → In ys y → WasIn xs y
was_in [] [] y w i = absurd i
was_in [] (z ∷ ys) y w i = absurd w
was_in (x ∷ xs) [] y w i = absurd w
was_in (x ∷ xs) (z ∷ ys) y w (inl e) = record {
  given = x;
  listed = inl refl;
  segment = w.0 ∙ ap (λ (g : Given). g.0) e;
  wider = sym (ap (λ (g : Given). is_wider_slot x.1 g.1) e) ∙ w.1;
}
was_in (x ∷ xs) (z ∷ ys) y w (inr i) =
    let r = was_in xs ys y w.2 i in
    record { given = r.given; listed = inr r.listed; segment = r.segment; wider = r.wider }

pub was : (xs ys : List Given) (y : Given) → AreWider xs ys → Contains ys y → Was xs y
was xs ys y w there =
    let r = was_in xs ys y w (contains_in ys y there) in
    record { given = r.given; listed = in_contains xs r.given r.listed; segment = r.segment; wider = r.wider }

pub same_body : (xs ys : List Given) → AreWider xs ys → map (λ (x : Given). x.0) ys ≡ map (λ (x : Given). x.0) xs
same_body [] [] w = refl
same_body [] (y ∷ ys) w = absurd w
same_body (x ∷ xs) [] w = absurd w
same_body (x ∷ xs) (y ∷ ys) w =
    ap (λ (s : Segment). s ∷ map (λ (x : Given). x.0) ys) (sym w.0) ∙ ap (λ (l : List Segment). x.0 ∷ l) (same_body xs ys w.2)

pub same_text : (a b : Option (List ℕ)) → is_same_text a b ≡ true → a ≡ b
same_text None None h = refl
same_text None (Some b) h = cc
same_text (Some a) None h = cc
same_text (Some a) (Some b) h = ap Some (same_texts a b h)

pub same_label : (old new : Slot) → is_wider_slot old new ≡ true → (label : List ℕ) → has_label label old ≡ has_label label new
same_label old new h label =
    ap (λ (o : Option (List ℕ)). has_label label (record old { label = o })) (same_text old.label new.label (slot_parts old new h).label)

-- no element is at fault by the wider slots
pub elements_free : (delims : Delims) (xs ys : List Given) → AreWider xs ys
    → ((x : Given) (e : ElemFault) → Contains xs x → IsElementFault delims x.0 x.1 e → ⊥)
    → (y : Given) (e : ElemFault) → Contains ys y → IsElementFault delims y.0 y.1 e → ⊥
elements_free delims xs ys w none y e there fault =
    let x = was xs ys y w there in
    slot_free delims y.0 x.given.1 y.1 (slot_parts x.given.1 y.1 x.wider)
    (λ e f. none x.given e x.listed (subst (λ (s : Segment). IsElementFault delims s x.given.1 e) (sym x.segment) f)) e fault
