-- The least pair of rivals is found.
use Rattle.std.proofs.Common.{◌≡◌, ◌≢◌, ℕ, ◌<◌, ◌≤◌, leb, ◌⊎◌, inl, inr, Bool, true, false, cond, IsTrue, [], ◌∷◌}
use Rattle.std.proofs.Common.{Option, Some, None, refl, sym, ap, ◌∙◌, arith}
use Rattle.std.proofs.lemmas.Bool.Decides.{nat_tests}
use Rattle.guide_tree.specs.declared.slot.Slot.{Slot}
use Rattle.guide_tree.specs.Tree.{Trees, EachNode}
use Rattle.guide_tree.specs.Segments.{can_fit_both}
use Rattle.guide_tree.specs.Places.{Place, slot_at, slot_nth, MayCome}
use Rattle.guide_tree.specs.Ambiguity.{AreRivals, IsAmbiguousAt}
use Rattle.guide_tree.specs.Rivals.{Numbers, numbers_of, least_rivals}
use Rattle.guide_tree.proofs.Keeping.{Keeps, IsAtMost}
use Rattle.guide_tree.proofs.RivalPairs.{Paired, MeetPaired, least_keeps}
use Rattle.guide_tree.proofs.RivalPlaces.{paired_both, stand_all}
use Rattle.guide_tree.proofs.RivalsPaired.{IsLed, both_follow, both_begin}
use Rattle.guide_tree.proofs.FitBoth.{can_fit_both-comm}

paired_rivals : (ts : Trees) (s u : Slot) → Paired ts s u → IsTrue (can_fit_both s u) → AreRivals ts s u
paired_rivals ts s u p f =
    let r = paired_both false (slot_nth ts) 0 ts s u (stand_all ts) tt p in
    record {
      last = Some (r.last ∷ r.last_in);
      first = r.one ∷ r.one_in;
      second = r.other ∷ r.other_in;
      stands = (r.base, r.stands);
      first_may = r.one_follows;
      second_may = r.other_follows;
      first_slot = r.one_slot;
      second_slot = r.other_slot;
      different = r.different;
      fits_both = f;
    }

swap_rivals : (ts : Trees) (s u : Slot) → AreRivals ts s u → AreRivals ts u s
swap_rivals ts s u r = record {
  last = r.last;
  first = r.second;
  second = r.first;
  stands = r.stands;
  first_may = r.second_may;
  second_may = r.first_may;
  first_slot = r.second_slot;
  second_slot = r.first_slot;
  different = λ e. r.different (sym e);
  fits_both = can_fit_both-comm s u r.fits_both;
}

pub ordered : (ts : Trees) (s u : Slot) (m : Numbers) (t : Bool) → leb s.number u.number ≡ t → AreRivals ts s u
    → m ≡ cond t (s.number, u.number) (u.number, s.number) → IsAmbiguousAt ts m.0 m.1
ordered ts s u m true l r e = record {
  one = s;
  other = u;
  rivals = r;
  one_number = sym (ap (λ (x : Numbers). x.0) e);
  other_number = sym (ap (λ (x : Numbers). x.1) e);
  lesser_first =
      (let a = ap (λ (x : Numbers). x.0) e in let b = ap (λ (x : Numbers). x.1) e in let c : s.number ≤ u.number =
      grind (arith, nat_tests) in omega arith);
}
ordered ts s u m false l r e = record {
  one = u;
  other = s;
  rivals = swap_rivals ts s u r;
  one_number = sym (ap (λ (x : Numbers). x.0) e);
  other_number = sym (ap (λ (x : Numbers). x.1) e);
  lesser_first =
      (let a = ap (λ (x : Numbers). x.0) e in let b = ap (λ (x : Numbers). x.1) e in let c : u.number < s.number =
      grind (arith, nat_tests) in omega arith);
}

pair_eq : (a b c d : ℕ) → a ≡ c → b ≡ d → (let p : Numbers = (a, b) in let q : Numbers = (c, d) in p ≡ q)
pair_eq a b c d e f =
    ap (λ (x : ℕ). let p : Numbers = (x, b) in p) e ∙ ap (λ (x : ℕ). let p : Numbers = (c, x) in p) f

chosen_pair : (x y a b : ℕ) (t : Bool) → leb x y ≡ t → (x ≤ y → (a ≡ x) × (b ≡ y)) → (y < x → (a ≡ y) × (b ≡ x))
    → (let p : Numbers = (a, b) in p ≡ cond t (x, y) (y, x))
chosen_pair x y a b true l f g = let c : x ≤ y = grind (arith, nat_tests) in let h = f c in pair_eq a b x y h.0 h.1
chosen_pair x y a b false l f g = let c : y < x = grind (arith, nat_tests) in let h = g c in pair_eq a b y x h.0 h.1

in_order : (s u : Slot) (a b : ℕ) → s.number ≡ a → u.number ≡ b → a ≤ b
    → (let p : Numbers = (a, b) in p ≡ numbers_of s u)
in_order s u a b e f l =
    chosen_pair s.number u.number a b (leb s.number u.number) refl (λ h. (sym e, sym f))
    (λ h. (omega arith, omega arith))

out_of_order : (s u : Slot) (a b : ℕ) → s.number ≡ a → u.number ≡ b → a ≤ b
    → (let p : Numbers = (a, b) in p ≡ numbers_of u s)
out_of_order s u a b e f l =
    chosen_pair u.number s.number a b (leb u.number s.number) refl (λ h. (omega arith, omega arith))
    (λ h. (sym e, sym f))

places_paired : (ts : Trees) (last : Option Place) (v w : Place) (s u : Slot) → EachNode IsLed ts → MayCome last v
    → MayCome last w → slot_at ts v ≡ Some s → slot_at ts w ≡ Some u → v ≢ w → Paired ts s u ⊎ Paired ts u s
places_paired ts None [] w s u h f g e d n = absurd f
places_paired ts None (b ∷ v) [] s u h f g e d n = absurd g
places_paired ts None (b ∷ v) (c ∷ w) s u h f g e d n = both_begin ts b c v w s u h f.0 g.0 f.1 g.1 e d n
places_paired ts (Some []) v w s u h f g e d n = absurd f
places_paired ts (Some (a ∷ p)) [] w s u h f g e d n = absurd f
places_paired ts (Some (a ∷ p)) (b ∷ v) [] s u h f g e d n = absurd g
places_paired ts (Some (a ∷ p)) (b ∷ v) (c ∷ w) s u h f g e d n = both_follow ts a b c p v w s u h f g e d n

meets : (ts : Trees) (a b : ℕ) → EachNode IsLed ts → IsAmbiguousAt ts a b → MeetPaired (Paired ts) (a, b)
meets ts a b h x =
    let r = x.rivals in
    elim (places_paired ts r.last r.first r.second x.one x.other h r.first_may r.second_may r.first_slot r.second_slot
    r.different) [
      | inl p ↦ record {
        one = x.one;
        other = x.other;
        paired = p;
        meet =
            (r.fits_both, in_order x.one x.other a b x.one_number x.other_number x.lesser_first);
      }
      | inr p ↦ record {
        one = x.other;
        other = x.one;
        paired = p;
        meet = (
          can_fit_both-comm x.one x.other r.fits_both,
          out_of_order x.one x.other a b x.one_number x.other_number
              x.lesser_first,
        );
      }
    ]

-- the least pair, or none
abbrev pub IsLeastPair : Trees → Option Numbers → Type 0
IsLeastPair ts None = (a b : ℕ) → IsAmbiguousAt ts a b → ⊥
IsLeastPair ts (Some m) = IsAmbiguousAt ts m.0 m.1 × ((a b : ℕ) → IsAmbiguousAt ts a b → IsAtMost m (a, b))

from_kept : (ts : Trees) (r : Option Numbers) → EachNode IsLed ts → Keeps (MeetPaired (Paired ts)) None r
    → IsLeastPair ts r
from_kept ts None h k = λ a b x. k.each (a, b) (meets ts a b h x)
from_kept ts (Some m) h k = (
  elim (k.from m refl) [
    | inl e ↦ (let f : None ≡ Some m = e in cc)
    | inr x ↦ ordered ts x.one x.other m
        (leb x.one.number x.other.number) refl (paired_rivals ts x.one x.other x.paired x.meet.0) x.meet.1
  ],
  λ a b x. k.each (a, b) (meets ts a b h x),
)

pub least_pair : (ts : Trees) → EachNode IsLed ts → IsLeastPair ts (least_rivals None ts)
least_pair ts h = from_kept ts (least_rivals None ts) h (least_keeps None ts)
