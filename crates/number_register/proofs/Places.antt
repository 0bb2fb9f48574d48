-- Which places of an index have which numbers: those of its interchanges without a fault, of their groups and of their sets.
use Rattle.std.proofs.Common.{◌≡◌, ℕ, suc, ◌+◌, ◌-◌, ◌<◌, ◌⊎◌, inl, inr, List, [], ◌∷◌, Bool, true, false, length}
use Rattle.std.proofs.Common.{Some, map, refl, ap, sym, ◌∙◌, subst, arith}
use Rattle.std.specs.Prelude.{Contains, is_none, slice_get}
use Rattle.std.proofs.lemmas.List.Elements.{Contains-append_cases}
use Rattle.std.proofs.lemmas.Option.{slice_get_within}
use Rattle.hub_kinds.specs.declared.place.Place.{Place}
use Rattle.env_index.specs.Words.{IndexEntry, IndexValue, InterchangeEntry, Numbered, group_numbers_from}
use Rattle.env_index.specs.Words.{interchange_number, kept_places, place_at, place_in, places_behind, places_of, GroupEntry}
use Rattle.env_index.specs.declared.entry.SetEnvelope.{SetEnvelope}
use Rattle.number_register.specs.Placing.{IsPlaced}
use Rattle.number_register.specs.Slots.{groups_of, sets_of, sets_at, groups_at}
use Rattle.number_register.proofs.ForAbove.{IsOfGroup, in_back, in_cons, in_front, interchange_item, moved, no_member, numbered}
use Rattle.number_register.proofs.ForAbove.{of_items}

-- of an interchange without a fault, or within it
pub record IsOfEntry (first : ℕ) (es : List IndexEntry) (a : Numbered) : Type 0 where
  pub n : ℕ
  pub e : IndexEntry
  pub there : slice_get es n ≡ Some e
  pub sound : is_none e.fault ≡ true
  pub is : (a ≡ numbered (place_at (first + n) 0 0) (interchange_number e.interchange.header))
      ⊎ IsOfGroup (first + n) 1 e.interchange.content.groups a

from_kept : (b : Bool) (isa : ℕ) (x : InterchangeEntry) (a : Numbered) → Contains (kept_places b isa x) a
    → (b ≡ true) × Contains (interchange_item isa x ∷ group_numbers_from isa 1 x.content.groups) a
from_kept true isa x a h = (refl, h)
from_kept false isa x a h = absurd (no_member a h)

pub of_entries : (first : ℕ) (es : List IndexEntry) (a : Numbered) → Contains (places_behind first es) a → IsOfEntry first es a
of_entries first [] a h = absurd (no_member a h)
of_entries first (e ∷ es) a h =
    elim (Contains-append_cases (kept_places (is_none e.fault) first e.interchange) (places_behind (first + 1) es) a h) [
      | inl f ↦ let kept = from_kept (is_none e.fault) first e.interchange a f in record {
        n = 0;
        e = e;
        there = refl;
        sound = kept.0;
        is = moved first (first + 0) e.interchange a (omega arith) (of_items first e.interchange a kept.1);
      }
      | inr f ↦ let m = of_entries (first + 1) es a f in record {
        n = suc m.n;
        e = m.e;
        there = m.there;
        sound = m.sound;
        is = moved (first + 1 + m.n) (first + suc m.n) m.e.interchange a (omega arith) m.is;
      }
    ]

pub of_mapped : {A B : Type 0} (f : A → B) (xs : List A) (b : B) → Contains (map f xs) b → (a : A) × Contains xs a × (b ≡ f a)
of_mapped f [] b h = absurd (no_member b h)
of_mapped f (x ∷ xs) b h = elim (in_cons (f x) (map f xs) b h) [
  | inl e ↦ (x, in_front x xs, e)
  | inr e ↦ let r = of_mapped f xs b e in (r.0, in_back x xs r.0 r.1, r.2)
]

pub mapped_in : {A B : Type 0} (f : A → B) (xs : List A) (a : A) → Contains xs a → Contains (map f xs) (f a)
mapped_in f [] a h = absurd (no_member a h)
mapped_in {A} f (x ∷ xs) a h = elim (in_cons x xs a h) [
  | inl e ↦ subst (λ (y : A). Contains (map f (x ∷ xs)) (f y)) (sym e) (in_front (f x) (map f xs))
  | inr e ↦ in_back (f x) (map f xs) (f a) (mapped_in f xs a e)
]

pub groups_there_of : (es : List IndexEntry) (n : ℕ) (e : IndexEntry) → slice_get es n ≡ Some e → groups_of es n
    ≡ e.interchange.content.groups
groups_there_of es n e there = ap groups_at there

pub sets_there_of : (es : List IndexEntry) (n k : ℕ) (e : IndexEntry) (g : GroupEntry) → slice_get es n ≡ Some e
    → slice_get e.interchange.content.groups k ≡ Some g → sets_of es n k ≡ g.sets
sets_there_of es n k e g there at =
    ap (λ (gs : List GroupEntry). sets_at (slice_get gs k)) (groups_there_of es n e there) ∙ ap sets_at at

-- by its numbers
placed_interchange : (es : List IndexEntry) (p : Place) (n : ℕ) → p ≡ place_at (1 + n) 0 0 → n < length es → IsPlaced es p
placed_interchange es p n is within =
    let isa : p.isa ≡ 1 + n = ap (λ (q : Place). q.isa) is in
    let gs : p.gs ≡ 0 = ap (λ (q : Place). q.gs) is in
    let st : p.st ≡ 0 = ap (λ (q : Place). q.st) is in record {
      isa = omega arith;
      alone = λ e. (st, omega arith);
      group = λ e f. absurd (omega arith);
      set = λ e f. absurd (omega arith);
    }

placed_group : (es : List IndexEntry) (p : Place) (n k : ℕ) → p ≡ place_at (1 + n) (1 + k) 0 → k < length (groups_of es n) → IsPlaced es p
placed_group es p n k is within =
    let isa : p.isa ≡ 1 + n = ap (λ (q : Place). q.isa) is in
    let gs : p.gs ≡ 1 + k = ap (λ (q : Place). q.gs) is in
    let st : p.st ≡ 0 = ap (λ (q : Place). q.st) is in
    let low : n ≡ p.isa - 1 = omega arith in record {
      isa = omega arith;
      alone = λ e. absurd (omega arith);
      group = λ e f. subst (λ (m : ℕ). p.gs - 1 < length (groups_of es m)) low (omega arith);
      set = λ e f. absurd (omega arith);
    }

placed_set : (es : List IndexEntry) (p : Place) (n k j : ℕ) → p ≡ place_at (1 + n) (1 + k) (1 + j) → j < length (sets_of es n k)
    → IsPlaced es p
placed_set es p n k j is within =
    let isa : p.isa ≡ 1 + n = ap (λ (q : Place). q.isa) is in
    let gs : p.gs ≡ 1 + k = ap (λ (q : Place). q.gs) is in
    let st : p.st ≡ 1 + j = ap (λ (q : Place). q.st) is in
    let low : n ≡ p.isa - 1 = omega arith in
    let mid : k ≡ p.gs - 1 = omega arith in record {
      isa = omega arith;
      alone = λ e. absurd (omega arith);
      group = λ e f. absurd (omega arith);
      set = λ e f. subst (λ (m : ℕ). p.st - 1 < length (sets_of es m (p.gs - 1))) low
          (subst (λ (m : ℕ). p.st - 1 < length (sets_of es n m)) mid (omega arith));
    }

by_entry : (es : List IndexEntry) (p : Place) (a : Numbered) → p ≡ a.place → IsOfEntry 1 es a → IsPlaced es p
by_entry es p a at of = elim of.is [
  | inl e ↦ placed_interchange es p of.n (at ∙ ap place_in e) (slice_get_within es of.n of.e of.there)
  | inr h ↦ elim h.is [
    | inl e ↦ placed_group es p of.n h.k (at ∙ ap place_in e)
        (subst (λ (gs : List GroupEntry). h.k < length gs) (sym (groups_there_of es of.n of.e of.there))
        (slice_get_within of.e.interchange.content.groups h.k h.group h.there))
    | inr s ↦ placed_set es p of.n h.k s.j (at ∙ ap place_in s.is)
        (subst (λ (ss : List SetEnvelope). s.j < length ss) (sym (sets_there_of es of.n h.k of.e h.group of.there h.there))
        (slice_get_within h.group.sets s.j s.set s.there))
  ]
]

-- a place of an index is an interchange's, a group's or a set's
pub placed : (index : IndexValue) (p : Place) → Contains (places_of index) p → IsPlaced index.entries p
placed index p h =
    let m = of_mapped place_in (places_behind 1 index.entries) p h in
    by_entry index.entries p m.0 m.2 (of_entries 1 index.entries m.0 m.1)
