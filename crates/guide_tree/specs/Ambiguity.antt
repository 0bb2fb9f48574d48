-- X12.6, order of segments (own rule): two places that are rivals for a segment.
use Rattle.std.specs.Prelude.{ℕ, ◌≡◌, ◌≢◌, ◌≤◌, IsTrue, Option, Some, IfSome}
use Rattle.guide_tree.specs.declared.slot.Slot.{Slot}
use Rattle.guide_tree.specs.Tree.{Trees}
use Rattle.guide_tree.specs.Segments.{can_fit_both}
use Rattle.guide_tree.specs.Places.{Place, slot_at, MayCome}

-- a place that leads to a slot, or the beginning
abbrev pub IsPlaceOrBeginning : Trees → Option Place → Type 0
IsPlaceOrBeginning ts last = IfSome last (λ q. (s : Slot) × (slot_at ts q ≡ Some s))

-- from some place, or from the beginning, two different places may follow, and some segment can fit both slots
pub record AreRivals (ts : Trees) (s t : Slot) : Type 0 where
  pub last : Option Place
  pub first : Place
  pub second : Place
  pub stands : IsPlaceOrBeginning ts last
  pub first_may : MayCome last first
  pub second_may : MayCome last second
  pub first_slot : slot_at ts first ≡ Some s
  pub second_slot : slot_at ts second ≡ Some t
  pub different : first ≢ second
  pub fits_both : IsTrue (can_fit_both s t)

-- the rivals' numbers, the lesser first
pub record IsAmbiguousAt (ts : Trees) (a b : ℕ) : Type 0 where
  pub one : Slot
  pub other : Slot
  pub rivals : AreRivals ts one other
  pub one_number : one.number ≡ a
  pub other_number : other.number ≡ b
  pub lesser_first : a ≤ b
