-- The first use of a place's number, of places whose numbers are listed.
use Rattle.std.proofs.Common.{◌≡◌, ℕ, inl, inr, true, false, List}
use Rattle.std.proofs.Common.{Option, Some, None, sym, ap, subst, ◌∙◌}
use Rattle.std.specs.Prelude.{Contains, option_map, slice_get}
use Rattle.std.proofs.lemmas.Bool.{cases_lt}
use Rattle.std.proofs.lemmas.Option.{none-some}
use Rattle.hub_kinds.specs.declared.place.Place.{Place}
use Rattle.work_core.specs.Core.{was_recorded}
use Rattle.env_index.specs.Words.{IndexValue, is_before, IsFirstUse, Number, Numbered, place_in, places_of}
use Rattle.number_register.specs.Recording.{IsEarlierIn, numbered_in}
use Rattle.number_register.proofs.Firsts.{IsFirstBefore}
use Rattle.number_register.proofs.Ordering.{AreInOrder, before_is_less}
use Rattle.number_register.proofs.ForAbove.{numbered}
use Rattle.number_register.proofs.Places.{mapped_in, of_mapped}

-- listed numbers are those at their places, and at no other
pub record AreUses (index : IndexValue) (at : ℕ → Place) {V : Type 0} (number : V → Number) (numbers : List V) : Type 0 where
  pub order : AreInOrder at
  pub single : (m : ℕ) (other : Number) → Contains (numbered_in index) (numbered (at m) other)
      → (v : V) × (slice_get numbers m ≡ Some v) × (other ≡ number v)
  pub only : (i : ℕ) (r : Place) (v : V) → slice_get numbers i ≡ Some v → Contains (numbered_in index) (numbered r (number v))
      → (m : ℕ) × (r ≡ at m) × (slice_get numbers m ≡ Some v)

module _ (index : IndexValue) (at : ℕ → Place) {V : Type 0} (number : V → Number) (numbers : List V)
    (uses : AreUses index at number numbers) where
  same_value : (m : ℕ) (v w : V) → slice_get numbers m ≡ Some v → slice_get numbers m ≡ Some w → w ≡ v
  same_value m v w is was = let e : Some w ≡ Some v = sym was ∙ is in let s : w ≡ v = cc in s

  -- a place of the index has its number
  has_number : (m : ℕ) (v : V) → slice_get numbers m ≡ Some v → Contains (places_of index) (at m)
      → Contains (numbered_in index) (numbered (at m) (number v))
  has_number m v is there =
      let a = of_mapped place_in (numbered_in index) (at m) there in
      let place : a.0.place ≡ at m = sym a.2 in
      let here : a.0 ≡ numbered (at m) a.0.number = λ i. record { place = place i; number = a.0.number } in
      let mine = subst (λ (x : Numbered). Contains (numbered_in index) x) here a.1 in
      let s = uses.single m a.0.number mine in
      subst (λ (x : Number). Contains (numbered_in index) (numbered (at m) x))
      (s.2 ∙ ap number (same_value m v s.0 is s.1)) mine

  pub is_earlier : (recorded : List Place) → ((p : Place) → was_recorded recorded p ≡ true → Contains (places_of index) p)
      → ((p : Place) → Contains (places_of index) p → was_recorded recorded p ≡ true)
      → (i : ℕ) (v : V) → slice_get numbers i ≡ Some v → Contains (places_of index) (at i)
      → (result : Option ℕ) → IsFirstBefore numbers at recorded i v result
      → (found : Option Place) → found ≡ option_map at result → IsEarlierIn index (at i) found
  is_earlier recorded listed full i v own mine None first None e = λ q used.
      let s = uses.single i used.number used.mine in
      let value : used.number ≡ number v = s.2 ∙ ap number (same_value i v s.0 own s.1) in
      let its = subst (λ (x : Number). Contains (numbered_in index) (numbered q x)) value used.its in
      let m = uses.only i q v own its in
      let low = before_is_less at uses.order m.0 i (subst (λ (x : Place). is_before x (at i) ≡ true) m.1 used.before) in
      first m.0 low m.2 (subst (λ (x : Place). was_recorded recorded x ≡ true) m.1
      (full q (mapped_in place_in (numbered_in index) (numbered q (number v)) its)))
  is_earlier recorded listed full i v own mine None first (Some q) e = absurd (none-some q (sym e))
  is_earlier recorded listed full i v own mine (Some m) first None e = absurd (none-some (at m) e)
  is_earlier recorded listed full i v own mine (Some m) first (Some q) e =
      let same : q ≡ at m = cc in
      subst (λ (x : Place). IsFirstUse (numbered_in index) (at i) x) (sym same) (record {
        number = number v;
        mine = has_number i v own mine;
        its = has_number m v first.1 (listed (at m) first.2);
        before = uses.order.less m i first.0;
        least = λ r there.
            let l = uses.only i r v own there in
            let rec = subst (λ (x : Place). was_recorded recorded x ≡ true) l.1
            (full r (mapped_in place_in (numbered_in index) (numbered r (number v)) there)) in
            subst (λ (x : Place). is_before x (at m) ≡ false) (sym l.1)
            (elim (cases_lt l.0 m) [
              | inl low ↦ absurd (first.3 l.0 low l.2 rec)
              | inr high ↦ uses.order.other l.0 m high
            ]);
      })
