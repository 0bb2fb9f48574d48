-- A slot and its first pick at a place.
use Rattle.std.proofs.Common.{◌≡◌, ◌<◌, ◌≤◌, ℕ, List, length, get_or, refl, ap, ◌∙◌, Some, None, option_map}
use Rattle.std.specs.Prelude.{slice_get}
use Rattle.std.proofs.lemmas.Option.{slice_get-map, slice_get_read, slice_get_past, get_or_from_slice_get}
use Rattle.guide_tree.specs.declared.slot.Slot.{Slot}
use Rattle.guide_fast.specs.Slots.{lent_slots}
use Rattle.guide_fast.specs.FirstPick.{slot_pick, slot_picks}
use Rattle.guide_fast.specs.declared.first_pick.FirstPick.{FirstPick}
use denote.Ref.{Bor}

abbrev lent : Bor Slot → Slot
lent s = s.now

pub slot_there : (slots : List (Bor Slot)) (k : ℕ) (x : Bor Slot) → k < length slots → x ≡ get_or slots k x
    → slice_get (lent_slots slots) k ≡ Some x.now
slot_there slots k x lt e = slice_get-map lent slots k ∙ ap (option_map lent) (slice_get_read slots (length slots) k x refl lt e)

pub slot_past : (slots : List (Bor Slot)) (k : ℕ) → length slots ≤ k → slice_get (lent_slots slots) k ≡ None
slot_past slots k le = slice_get-map lent slots k ∙ ap (option_map lent) (slice_get_past slots k le)

pub pick_there : (slots : List (Bor Slot)) (picks : List FirstPick) (k : ℕ) (x : Bor Slot) (d : FirstPick) → k < length slots
    → x ≡ get_or slots k x → picks ≡ slot_picks (lent_slots slots) → get_or picks k d ≡ slot_pick x.now
pick_there slots picks k x d lt e are =
    get_or_from_slice_get picks k (slot_pick x.now) d
    (ap (λ (l : List FirstPick). slice_get l k) are ∙ slice_get-map slot_pick (lent_slots slots) k
    ∙ ap (option_map slot_pick) (slot_there slots k x lt e))
