-- A segment whose id has another number than a slot's or a node's isn't one of it.
use Rattle.std.proofs.Common.{◌≡◌, ℕ, ◌==◌, length, List, [], ◌∷◌, Bool, true, false, ◌&&◌, None, refl, sym, ap, ◌∙◌, arith}
use Rattle.std.proofs.lemmas.Bool.{eqb-true}
use Rattle.std.specs.Str.{bytes_eq}
use Rattle.std.specs.List.{list_all}
use Rattle.std.specs.Cmp.Lexicographic.{bytes_decides}
use Rattle.hub_kinds.specs.Words.{contains_text}
use Rattle.guide_tree.specs.declared.slot.Slot.{Slot}
use Rattle.guide_tree.specs.declared.slot.Pick.{Pick}
use Rattle.guide_tree.specs.declared.node.Node.{Node}
use Rattle.guide_tree.specs.Words.{Segment, segment_id, element_at, fits, fit_start, view}
use Rattle.elem_rules.proofs.ForAbove.{same_code}
use Rattle.guide_fast.specs.IdNumber.{id_number, HasNumber, begin_number}
use Rattle.guide_fast.proofs.Starting.{no_start}

differ : (b : Bool) (x y : List ℕ) → (b ≡ true → x ≡ y) → (id_number x ≡ id_number y → ⊥) → b ≡ false
differ true x y e some = absurd (some (ap id_number (e refl)))
differ false x y e some = refl

-- a node whose id has another number
pub no_start_there : (s : Segment) (n : Node) (own number : ℕ) → HasNumber s number → own ≡ begin_number n → (own ≡ number → ⊥)
    → fit_start s (view n) ≡ None
no_start_there s n own number h e some = no_start s (view n)
    (differ (bytes_eq _ (segment_id s)) _ (segment_id s) (bytes_decides _ (segment_id s)).0 (λ f. some (e ∙ f ∙ sym h)))

-- a slot without picks whose id has the segment's number
pub fits_there : (s : Segment) (x : Slot) (number : ℕ) → HasNumber s number → number ≡ id_number x.id
    → (number ≡ 0 → ⊥) → x.picks ≡ [] → true ≡ fits x s
fits_there s x number h e some none =
    let same : x.id ≡ segment_id s =
    same_code x.id (segment_id s) (sym e ∙ h) (λ z. some (e ∙ z)) in
    let found : bytes_eq x.id (segment_id s) ≡ true = (bytes_decides x.id (segment_id s)).1 same in
    sym (ap (λ (b : Bool). b && list_all (λ p. contains_text p.codes (element_at s p.position)) x.picks) found
    ∙ ap (λ (ps : List Pick). list_all (λ p. contains_text p.codes (element_at s p.position)) ps) none)

-- a slot whose id has another number
pub no_fit_there : (s : Segment) (x : Slot) (own number : ℕ) → HasNumber s number → own ≡ id_number x.id → (own ≡ number → ⊥)
    → false ≡ fits x s
no_fit_there s x own number h e some =
    sym (ap (λ (b : Bool). b && list_all (λ p. contains_text p.codes (element_at s p.position)) x.picks)
    (differ (bytes_eq x.id (segment_id s)) x.id (segment_id s) (bytes_decides x.id (segment_id s)).0 (λ f. some (e ∙ f ∙ sym h))))

pub none_in : (xs : List Pick) → (length xs == 0) ≡ true → xs ≡ []
none_in [] e = refl
none_in (x ∷ xs) e = absurd (omega (arith, eqb-true (length (x ∷ xs)) 0 e))
