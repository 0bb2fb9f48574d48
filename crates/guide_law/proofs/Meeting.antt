-- A body is derived exactly when its placing has no stray and nothing is missing or used too often on the way.
use Rattle.std.proofs.Common.{◌≡◌, ℕ, leb, List, [], ◌∷◌, map, Option, Some, None, true, false, refl}
use Rattle.std.proofs.Common.{◌∙◌, ap, subst, arith}
use Rattle.guide_tree.specs.declared.slot.Slot.{Slot}
use Rattle.guide_tree.specs.Words.{Segment, fits, Trees, Given, Derives, Place, use_of, slot_at, Follows, MayCome, FitsAt, IsPlacing}
use Rattle.guide_tree.specs.Words.{IsPlaceOrBeginning, IsAmbiguousAt, numbers_of}
use Rattle.guide_law.proofs.Residual.{AllTriggered, After, IsMetFrom, IsMet}
use Rattle.guide_tree.proofs.ForAbove.{ordered, fits_both}
use Rattle.guide_law.proofs.Deciding.{place_same}
use Rattle.guide_law.proofs.Entering.{derived_begins}
use Rattle.guide_law.proofs.Stepping.{empty_derived, nothing_after, after_goes}
use Rattle.guide_law.proofs.Returning.{nothing_derived, ends_after, begins_derived, goes_after}
use Rattle.guide_law.proofs.Following.{enters_first, steps_follow}
use Rattle.guide_law.proofs.Cases.{pick}

abbrev pub HasNoRivals : Trees → Type 0
HasNoRivals ts = (a b : ℕ) → IsAmbiguousAt ts a b → ⊥

-- in a guide without rivals two places that may come and that the segment fits are one
pub one_place : (ts : Trees) (last : Option Place) (v w : Place) (s : Segment) → HasNoRivals ts
    → IsPlaceOrBeginning ts last → MayCome last v → MayCome last w → FitsAt ts v s → FitsAt ts w s → v ≡ w
one_place ts last v w s none at a b (p, e, f) (q, k, g) =
    pick (place_same v w) (λ x. x)
    (λ d. absurd (none (numbers_of p q).0 (numbers_of p q).1
    (ordered ts p q (numbers_of p q) (leb p.number q.number) refl (record {
      last = last;
      first = v;
      second = w;
      stands = at;
      first_may = a;
      second_may = b;
      first_slot = e;
      second_slot = k;
      different = d;
      fits_both = fits_both p q s f g;
    }) refl)))

-- the placing of a derived list: no stray, all met, and the slots of the derivation
pub record Placed (ts : Trees) (given : List (Option Place)) (xs : List Given) (Met : List Place → Type 0) : Type 1
  where
    pub places : List Place
    pub is : given ≡ map Some places
    pub met : Met places
    pub slots : map (slot_at ts) places ≡ map (λ (x : Given). Some x.1) xs

pub after_placed : (ts : Trees) (n r : ℕ) (q : Place) (xs : List Given) (given : List (Option Place))
    → AllTriggered ts → HasNoRivals ts
    → IsPlaceOrBeginning ts (Some (use_of n r ∷ q)) → After ts n r q xs
    → IsPlacing ts (Some (use_of n r ∷ q)) (map (λ (x : Given). x.0) xs) given
    → Placed ts given xs (IsMetFrom ts n r q)
after_placed ts n r q [] [] h one at d p =
    record { places = []; is = refl; met = nothing_after ts n r q h d; slots = refl }
after_placed ts n r q [] (y ∷ given) h one at d p = absurd p
after_placed ts n r q (x ∷ xs) [] h one at d p = absurd p
after_placed ts n r q (x ∷ xs) (None ∷ given) h one at d p =
    let g = after_goes ts n r q x xs h d in
    let f : Follows false (use_of n r ∷ q) (use_of g.child g.use_no ∷ g.place) =
    steps_follow false ts 0 n r q g.child g.use_no g.place n g.child h (λ e. absurd (let k : false ≡ true = e in cc))
    (omega arith) (omega arith) g.steps in
    absurd (p.0 (use_of g.child g.use_no ∷ g.place) f (x.1, g.slot, g.fit))
after_placed ts n r q (x ∷ xs) (Some v ∷ given) h one at d p =
    let g = after_goes ts n r q x xs h d in
    let w : Place = use_of g.child g.use_no ∷ g.place in
    let f : Follows false (use_of n r ∷ q) w =
    steps_follow false ts 0 n r q g.child g.use_no g.place n g.child h (λ e. absurd (let k : false ≡ true = e in cc))
    (omega arith) (omega arith) g.steps in
    let same : v ≡ w = one_place ts (Some (use_of n r ∷ q)) v w x.0 one at p.0 f p.1 (x.1, g.slot, g.fit) in
    let rest = after_placed ts g.child g.use_no g.place xs given h one (x.1, g.slot) g.after
    (subst (λ (z : Place). IsPlacing ts (Some z) (map (λ (x : Given). x.0) xs) given) same p.2) in
    record {
      places = w ∷ rest.places;
      is = ap (λ (z : Place). Some z ∷ given) same ∙ ap (λ (l : List (Option Place)). Some w ∷ l) rest.is;
      met = (g.steps, rest.met);
      slots =
          ap (λ (z : Option Slot). z ∷ map (slot_at ts) rest.places) g.slot
          ∙ ap (λ (l : List (Option Slot)). Some x.1 ∷ l) rest.slots;
    }

pub derived_placed : (ts : Trees) (xs : List Given) (given : List (Option Place)) → AllTriggered ts → HasNoRivals ts
    → Derives ts xs
    → IsPlacing ts None (map (λ (x : Given). x.0) xs) given → Placed ts given xs (IsMet ts)
derived_placed ts [] [] h one d p = record { places = []; is = refl; met = empty_derived ts h d; slots = refl }
derived_placed ts [] (y ∷ given) h one d p = absurd p
derived_placed ts (x ∷ xs) [] h one d p = absurd p
derived_placed ts (x ∷ xs) (None ∷ given) h one d p =
    let b = derived_begins ts x xs h d in
    absurd (p.0 (use_of b.child 0 ∷ b.place) (refl, enters_first ts b.child b.place b.enters) (x.1, b.slot, b.fit))
derived_placed ts (x ∷ xs) (Some v ∷ given) h one d p =
    let b = derived_begins ts x xs h d in
    let w : Place = use_of b.child 0 ∷ b.place in
    let same : v ≡ w =
    one_place ts None v w x.0 one tt p.0 (refl, enters_first ts b.child b.place b.enters) p.1 (x.1, b.slot, b.fit) in
    let rest = after_placed ts b.child 0 b.place xs given h one (x.1, b.slot) b.after
    (subst (λ (z : Place). IsPlacing ts (Some z) (map (λ (x : Given). x.0) xs) given) same p.2) in
    record {
      places = w ∷ rest.places;
      is = ap (λ (z : Place). Some z ∷ given) same ∙ ap (λ (l : List (Option Place)). Some w ∷ l) rest.is;
      met = (refl, b.enters, rest.met);
      slots =
          ap (λ (z : Option Slot). z ∷ map (slot_at ts) rest.places) b.slot
          ∙ ap (λ (l : List (Option Slot)). Some x.1 ∷ l) rest.slots;
    }

-- the list that a placing without stray gives
pub record Read (ts : Trees) (body : List Segment) (places : List Place) (Is : List Given → Type 0) : Type 1 where
  pub given : List Given
  pub body_is : map (λ (x : Given). x.0) given ≡ body
  pub derived : Is given
  pub slots : map (slot_at ts) places ≡ map (λ (x : Given). Some x.1) given

pub met_after : (ts : Trees) (n r : ℕ) (q : Place) (body : List Segment) (places : List Place) → AllTriggered ts
    → IsPlacing ts (Some (use_of n r ∷ q)) body (map Some places) → IsMetFrom ts n r q places
    → Read ts body places (After ts n r q)
met_after ts n r q [] [] h p m = record { given = []; body_is = refl; derived = ends_after ts n r q m; slots = refl }
met_after ts n r q (s ∷ body) [] h p m = absurd p
met_after ts n r q [] (w ∷ places) h p m = absurd p
met_after ts n r q (s ∷ body) ([] ∷ places) h p m = absurd m
met_after ts n r q (s ∷ body) ((b ∷ w) ∷ places) h (may, (f, e, fits), later) m =
    let rest = met_after ts b.child b.use_no w body places h later m.1 in
    record {
      given = (s, f) ∷ rest.given;
      body_is = ap (λ (l : List Segment). s ∷ l) rest.body_is;
      derived = goes_after ts n r q b.child b.use_no w (s, f) rest.given h m.0 e fits rest.derived;
      slots =
          ap (λ (z : Option Slot). z ∷ map (slot_at ts) places) e
          ∙ ap (λ (l : List (Option Slot)). Some f ∷ l) rest.slots;
    }

pub met_derived : (ts : Trees) (body : List Segment) (places : List Place) → AllTriggered ts
    → IsPlacing ts None body (map Some places) → IsMet ts places → Read ts body places (Derives ts)
met_derived ts [] [] h p m = record { given = []; body_is = refl; derived = nothing_derived ts m; slots = refl }
met_derived ts (s ∷ body) [] h p m = absurd p
met_derived ts [] (w ∷ places) h p m = absurd p
met_derived ts (s ∷ body) ([] ∷ places) h p m = absurd m
met_derived ts (s ∷ body) ((b ∷ w) ∷ places) h (may, (f, e, fits), later) m =
    let rest = met_after ts b.child b.use_no w body places h later m.2 in
    record {
      given = (s, f) ∷ rest.given;
      body_is = ap (λ (l : List Segment). s ∷ l) rest.body_is;
      derived =
          begins_derived ts b.child w (s, f) rest.given h m.1 e fits
          (subst (λ (u : ℕ). After ts b.child u w rest.given) m.0 rest.derived);
      slots =
          ap (λ (z : Option Slot). z ∷ map (slot_at ts) places) e
          ∙ ap (λ (l : List (Option Slot)). Some f ∷ l) rest.slots;
    }
