-- What is reported of earlier numbers of groups and sets follows from the first uses of numbers.
use Rattle.std.proofs.Common.{◌≡◌, ℕ, zero, suc, ◌+◌, ◌<◌, inl, inr, List, [], ◌∷◌, Bool, true, false, refl, ap, sym, ◌∙◌, subst, arith}
use Rattle.std.proofs.Common.{Some, None, Option}
use Rattle.std.specs.Prelude.{◌↔◌, Contains, slice_get}
use Rattle.hub_kinds.specs.declared.limits.TheConstants.{MOST_CONTROL_DIGITS}
use Rattle.hub_kinds.specs.declared.place.Place.{Place}
use Rattle.x12_segs.specs.Words.{element_of}
use Rattle.env_index.specs.Words.{InterchangeEntry, Number, OfInterchange, OfGroup, OfSet, Numbered, index_places, is_indexed, place_at}
use Rattle.env_index.specs.Words.{GroupEntry, IsEarlier}
use Rattle.env_index.specs.declared.entry.SetEnvelope.{SetEnvelope}
use Rattle.std.specs.Prelude.{take}
use Rattle.std.specs.List.{list_any}
use Rattle.std.specs.Str.{bytes_eq}
use Rattle.ack_999.specs.Group.{are_same_number}
use Rattle.hub_kinds.specs.Words.{number_of}
use Rattle.std.proofs.lemmas.Bool.{eq-eqb, eqb-true, false≢true, or_cases, or_left, or_right}
use Rattle.std.proofs.lemmas.Option.{none-some}
use Rattle.std.proofs.lemmas.Slice.Eq.{bytes_eq-Decides}
use Rattle.set_answers.proofs.Least.{AreUses, first_use, groups_in_order, sets_in_order}
use Rattle.set_answers.proofs.Places.{IsOfInterchange, of_places, places_there}
use Rattle.number_register.proofs.ForAbove.{IsOfGroup, IsOfSet, group_item, group_there, in_back, interchange_item, numbered, set_there}

-- numbers of different kinds differ, and a number of a kind is of its parts
pub set_is_no_interchange : (isa gs : ℕ) (c : List ℕ) (fields : List (List ℕ)) → OfSet isa gs c ≡ OfInterchange fields → ⊥
set_is_no_interchange isa gs c fields e = cc

set_is_no_group : (isa gs other : ℕ) (c : List ℕ) (control : Option ℕ) → OfSet isa gs c ≡ OfGroup other control → ⊥
set_is_no_group isa gs other c control e = cc

pub group_is_no_interchange : (isa : ℕ) (control : Option ℕ) (fields : List (List ℕ)) → OfGroup isa control ≡ OfInterchange fields → ⊥
group_is_no_interchange isa control fields e = cc

same_set_isa : (isa gs isa' gs' : ℕ) (c c' : List ℕ) → OfSet isa gs c ≡ OfSet isa' gs' c' → isa ≡ isa'
same_set_isa isa gs isa' gs' c c' e = cc

same_set_gs : (isa gs isa' gs' : ℕ) (c c' : List ℕ) → OfSet isa gs c ≡ OfSet isa' gs' c' → gs ≡ gs'
same_set_gs isa gs isa' gs' c c' e = cc

same_set_control : (isa gs isa' gs' : ℕ) (c c' : List ℕ) → OfSet isa gs c ≡ OfSet isa' gs' c' → c ≡ c'
same_set_control isa gs isa' gs' c c' e = cc

same_group_isa : (isa isa' : ℕ) (c c' : Option ℕ) → OfGroup isa c ≡ OfGroup isa' c' → isa ≡ isa'
same_group_isa isa isa' c c' e = cc

same_group_control : (isa isa' : ℕ) (c c' : Option ℕ) → OfGroup isa c ≡ OfGroup isa' c' → c ≡ c'
same_group_control isa isa' c c' e = cc

at_same : {A : Type 0} (xs : List A) (n m : ℕ) (x y : A) → slice_get xs n ≡ Some x → slice_get xs m ≡ Some y → m ≡ n → x ≡ y
at_same xs n m x y is was same =
    let e : Some x ≡ Some y = sym is ∙ ap (λ (k : ℕ). slice_get xs k) (sym same) ∙ was in
    cc

set_moved : (isa isa' gs gs' : ℕ) (sets sets' : List SetEnvelope) (a : Numbered) → isa ≡ isa' → gs ≡ gs' → sets ≡ sets'
    → IsOfSet isa gs 1 sets a → IsOfSet isa' gs' 1 sets' a
set_moved isa isa' gs gs' sets sets' a same_isa same_gs same_sets h =
    subst (λ (n : ℕ). IsOfSet n gs' 1 sets' a) same_isa
    (subst (λ (n : ℕ). IsOfSet isa n 1 sets' a) same_gs (subst (λ (ss : List SetEnvelope). IsOfSet isa gs 1 ss a) same_sets h))

-- the interchange of a number, and a group of it
pub same_interchange : (knows : List ℕ → Bool) (xs : List InterchangeEntry) (n : ℕ) (x : InterchangeEntry) (a : Numbered)
    → slice_get xs n ≡ Some x → (of : IsOfInterchange knows 1 xs a) → 1 + of.n ≡ 1 + n → x ≡ of.x
same_interchange knows xs n x a there of same = at_same xs n of.n x of.x there of.there (omega (arith, same))

same_group : (isa : ℕ) (groups others : List GroupEntry) (k : ℕ) (g : GroupEntry) (a : Numbered) → groups ≡ others
    → slice_get groups k ≡ Some g → (h : IsOfGroup isa 1 others a) → 1 + h.k ≡ 1 + k → g ≡ h.group
same_group isa groups others k g a same there h at =
    at_same others k h.k g h.group (subst (λ (gs : List GroupEntry). slice_get gs k ≡ Some g) same there) h.there (omega (arith, at))

inner_set : (knows : List ℕ → Bool) (xs : List InterchangeEntry) (n : ℕ) (x : InterchangeEntry) (k : ℕ) (g : GroupEntry) (a : Numbered)
    → slice_get xs n ≡ Some x → slice_get x.content.groups k ≡ Some g
    → (of : IsOfInterchange knows 1 xs a) (h : IsOfGroup (1 + of.n) 1 of.x.content.groups a)
    → IsOfSet (1 + of.n) (1 + h.k) 1 h.group.sets a → 1 + of.n ≡ 1 + n → 1 + h.k ≡ 1 + k → IsOfSet (1 + n) (1 + k) 1 g.sets a
inner_set knows xs n x k g a there at of h s isa gs =
    let interchange : x ≡ of.x = same_interchange knows xs n x a there of isa in
    let group : g ≡ h.group = same_group (1 + of.n) x.content.groups of.x.content.groups k g a
    (ap (λ (z : InterchangeEntry). z.content.groups) interchange) at h gs in
    set_moved (1 + of.n) (1 + n) (1 + h.k) (1 + k) h.group.sets g.sets a isa gs (ap (λ (z : GroupEntry). z.sets) (sym group)) s

abbrev pub number_in : Numbered → Number
number_in a = a.number

-- what has the number of a set of a group is one of its sets
sets_by_number : (knows : List ℕ → Bool) (xs : List InterchangeEntry) (n : ℕ) (x : InterchangeEntry) (k : ℕ) (g : GroupEntry)
    (r : Place) (c : List ℕ) → slice_get xs n ≡ Some x → slice_get x.content.groups k ≡ Some g
    → IsOfInterchange knows 1 xs (numbered r (OfSet (1 + n) (1 + k) c))
    → IsOfSet (1 + n) (1 + k) 1 g.sets (numbered r (OfSet (1 + n) (1 + k) c))
sets_by_number knows xs n x k g r c there at of = elim of.is [
  | inl e ↦ absurd (set_is_no_interchange (1 + n) (1 + k) c _ (ap number_in e))
  | inr h ↦ elim h.is [
    | inl e ↦ absurd (set_is_no_group (1 + n) (1 + k) _ c _ (ap number_in e))
    | inr s ↦ inner_set knows xs n x k g _ there at of h s
        (sym (same_set_isa (1 + n) (1 + k) (1 + of.n) (1 + h.k) c _ (ap number_in s.is)))
        (sym (same_set_gs (1 + n) (1 + k) (1 + of.n) (1 + h.k) c _ (ap number_in s.is)))
  ]
]

-- what stands at the place of a set of a group is that set
sets_by_place : (knows : List ℕ → Bool) (xs : List InterchangeEntry) (n : ℕ) (x : InterchangeEntry) (k : ℕ) (g : GroupEntry)
    (j : ℕ) (number : Number) → slice_get xs n ≡ Some x → slice_get x.content.groups k ≡ Some g
    → IsOfInterchange knows 1 xs (numbered (place_at (1 + n) (1 + k) (1 + j)) number)
    → IsOfSet (1 + n) (1 + k) 1 g.sets (numbered (place_at (1 + n) (1 + k) (1 + j)) number)
sets_by_place knows xs n x k g j number there at of = elim of.is [
  | inl e ↦ absurd (let zero_is : 1 + k ≡ 0 = ap (λ (a : Numbered). a.place.gs) e in omega (arith, zero_is))
  | inr h ↦ elim h.is [
    | inl e ↦ absurd (let zero_is : 1 + j ≡ 0 = ap (λ (a : Numbered). a.place.st) e in omega (arith, zero_is))
    | inr s ↦ inner_set knows xs n x k g _ there at of h s
        (sym (ap (λ (a : Numbered). a.place.isa) s.is)) (sym (ap (λ (a : Numbered). a.place.gs) s.is))
  ]
]

-- a test at a number of a list
abbrev pub holds_at : {A : Type 0} → (A → Bool) → List A → ℕ → Bool
holds_at test [] n = false
holds_at test (x ∷ xs) zero = test x
holds_at test (x ∷ xs) (suc n) = holds_at test xs n

pub holds_there : {A : Type 0} (test : A → Bool) (xs : List A) (n : ℕ) (x : A) → slice_get xs n ≡ Some x → test x ≡ true
    → holds_at test xs n ≡ true
holds_there test [] n x there e = absurd (none-some x there)
holds_there {A} test (y ∷ xs) zero x there e = let same : y ≡ x = cc in ap test same ∙ e
holds_there test (y ∷ xs) (suc n) x there e = holds_there test xs n x there e

pub there_holds : {A : Type 0} (test : A → Bool) (xs : List A) (n : ℕ) → holds_at test xs n ≡ true
    → (x : A) × (slice_get xs n ≡ Some x) × (test x ≡ true)
there_holds test [] n h = absurd (false≢true h)
there_holds test (y ∷ xs) zero h = (y, refl, h)
there_holds test (y ∷ xs) (suc n) h = there_holds test xs n h

pub any_holds : {A : Type 0} (test : A → Bool) (xs : List A) (n : ℕ) → list_any test (take n xs) ≡ true
    → (m : ℕ) × (m < n) × (holds_at test xs m ≡ true)
any_holds test xs zero h = absurd (false≢true h)
any_holds test [] (suc n) h = absurd (false≢true h)
any_holds test (y ∷ xs) (suc n) h = elim (or_cases (test y) (list_any test (take n xs)) h) [
  | inl e ↦ (0, omega arith, e)
  | inr e ↦ let r = any_holds test xs n e in (suc r.0, omega (arith, r.1), r.2)
]

pub holds_any : {A : Type 0} (test : A → Bool) (xs : List A) (n m : ℕ) → m < n → holds_at test xs m ≡ true
    → list_any test (take n xs) ≡ true
holds_any test xs zero m within h = absurd (omega (arith, within))
holds_any test [] (suc n) m within h = absurd (false≢true h)
holds_any test (y ∷ xs) (suc n) zero within h = or_left (test y) (list_any test (take n xs)) h
holds_any test (y ∷ xs) (suc n) (suc m) within h =
    or_right (test y) (list_any test (take n xs)) (holds_any test xs n m (omega (arith, within)) h)

-- an earlier item passes a test exactly where some of those before it does
pub earlier_item : {A : Type 0} (test : A → Bool) (xs : List A) (n : ℕ)
    → (list_any test (take n xs) ≡ true) ↔ ((m : ℕ) × (m < n) × (holds_at test xs m ≡ true))
earlier_item test xs n = (any_holds test xs n, λ r. holds_any test xs n r.0 r.1 r.2)

-- the sets of a group that have a number
abbrev pub has_control : List ℕ → SetEnvelope → Bool
has_control c set = bytes_eq c (element_of set.header 2)

set_uses : (knows : List ℕ → Bool) (xs : List InterchangeEntry) (n : ℕ) (x : InterchangeEntry) (k : ℕ) (g : GroupEntry) (c : List ℕ)
    → slice_get xs n ≡ Some x → is_indexed knows x ≡ true → slice_get x.content.groups k ≡ Some g
    → AreUses (index_places knows xs) (λ j. place_at (1 + n) (1 + k) (1 + j)) (OfSet (1 + n) (1 + k) c) (holds_at (has_control c) g.sets)
set_uses knows xs n x k g c there indexed at = record {
  there = λ m h.
      let s = there_holds (has_control c) g.sets m h in
      subst (λ (d : List ℕ). Contains (index_places knows xs) (numbered (place_at (1 + n) (1 + k) (1 + m)) (OfSet (1 + n) (1 + k) d)))
      (sym ((bytes_eq-Decides c (element_of s.0.header 2)).0 s.2))
      (places_there knows 1 xs n x _ there indexed (in_back (interchange_item (1 + n) x) _ _
      (set_there (1 + n) 1 x.content.groups k g m s.0 at s.1)));
  only = λ r h.
      let s = sets_by_number knows xs n x k g r c there at (of_places knows 1 xs _ h) in (
        s.j,
        ap (λ (a : Numbered). a.place) s.is,
        holds_there (has_control c) g.sets s.j s.set s.there
            ((bytes_eq-Decides c (element_of s.set.header 2)).1 (same_set_control (1 + n) (1 + k) (1 + n) (1 + k) c _ (ap number_in s.is))),
      );
}

pub set_first : (knows : List ℕ → Bool) (xs : List InterchangeEntry) (n : ℕ) (x : InterchangeEntry) (k : ℕ) (g : GroupEntry) (j : ℕ)
    (set : SetEnvelope) → slice_get xs n ≡ Some x → is_indexed knows x ≡ true → slice_get x.content.groups k ≡ Some g
    → slice_get g.sets j ≡ Some set
    → ((m : ℕ) × (m < j) × (holds_at (has_control (element_of set.header 2)) g.sets m ≡ true))
    ↔ ((q : Place) × IsEarlier knows xs (place_at (1 + n) (1 + k) (1 + j)) q)
set_first knows xs n x k g j set there indexed at in_it =
    let c = element_of set.header 2 in
    first_use (index_places knows xs) (λ i. place_at (1 + n) (1 + k) (1 + i)) (OfSet (1 + n) (1 + k) c) (holds_at (has_control c) g.sets) j
    (sets_in_order (1 + n) (1 + k)) (set_uses knows xs n x k g c there indexed at)
    (λ other h.
    let s = sets_by_place knows xs n x k g j other there at (of_places knows 1 xs _ h) in
    let same : set ≡ s.set = at_same g.sets j s.j set s.set in_it s.there
    (let e : 1 + j ≡ 1 + s.j = ap (λ (a : Numbered). a.place.st) s.is in omega (arith, e)) in
    ap number_in s.is ∙ ap (λ (z : SetEnvelope). OfSet (1 + n) (1 + k) (element_of z.header 2)) (sym same))
    (holds_there (has_control c) g.sets j set in_it ((bytes_eq-Decides c c).1 refl))

-- the groups of an interchange that have a number
abbrev pub control_in : GroupEntry → Option ℕ
control_in g = number_of MOST_CONTROL_DIGITS (element_of g.header 6)

abbrev pub has_group_number : Option ℕ → GroupEntry → Bool
has_group_number control g = are_same_number control (control_in g)

agreed : (a b : Option ℕ) → are_same_number a b ≡ true → a ≡ b
agreed None b h = absurd (false≢true h)
agreed (Some a) None h = absurd (false≢true h)
agreed (Some a) (Some b) h = ap (λ (n : ℕ). Some n) (eqb-true a b h)

agrees : (v : ℕ) (a b : Option ℕ) → a ≡ Some v → a ≡ b → are_same_number a b ≡ true
agrees v a b is same =
    subst (λ (x : Option ℕ). are_same_number a x ≡ true) same (subst (λ (x : Option ℕ). are_same_number x x ≡ true) (sym is)
    (eq-eqb v v refl))

-- a group by its number or its place
record IsGroupThere (n : ℕ) (groups : List GroupEntry) (a : Numbered) : Type 0 where
  pub k : ℕ
  pub group : GroupEntry
  pub there : slice_get groups k ≡ Some group
  pub is : a ≡ group_item (1 + n) (1 + k) group

group_moved : (knows : List ℕ → Bool) (xs : List InterchangeEntry) (n : ℕ) (x : InterchangeEntry) (a : Numbered)
    → slice_get xs n ≡ Some x → (of : IsOfInterchange knows 1 xs a) (h : IsOfGroup (1 + of.n) 1 of.x.content.groups a)
    → a ≡ group_item (1 + of.n) (1 + h.k) h.group → 1 + of.n ≡ 1 + n → IsGroupThere n x.content.groups a
group_moved knows xs n x a there of h e isa = record {
  k = h.k;
  group = h.group;
  there = subst (λ (z : InterchangeEntry). slice_get z.content.groups h.k
      ≡ Some h.group) (sym (same_interchange knows xs n x a there of isa))
      h.there;
  is = e ∙ ap (λ (i : ℕ). group_item i (1 + h.k) h.group) isa;
}

groups_by_number : (knows : List ℕ → Bool) (xs : List InterchangeEntry) (n : ℕ) (x : InterchangeEntry) (r : Place) (c : Option ℕ)
    → slice_get xs n ≡ Some x → IsOfInterchange knows 1 xs (numbered r (OfGroup (1 + n) c))
    → IsGroupThere n x.content.groups (numbered r (OfGroup (1 + n) c))
groups_by_number knows xs n x r c there of = elim of.is [
  | inl e ↦ absurd (group_is_no_interchange (1 + n) c _ (ap number_in e))
  | inr h ↦ elim h.is [
    | inl e ↦ group_moved knows xs n x _ there of h e (sym (same_group_isa (1 + n) (1 + of.n) c _ (ap number_in e)))
    | inr s ↦ absurd (set_is_no_group _ _ (1 + n) _ c (sym (ap number_in s.is)))
  ]
]

groups_by_place : (knows : List ℕ → Bool) (xs : List InterchangeEntry) (n : ℕ) (x : InterchangeEntry) (k : ℕ) (number : Number)
    → slice_get xs n ≡ Some x → IsOfInterchange knows 1 xs (numbered (place_at (1 + n) (1 + k) 0) number)
    → IsGroupThere n x.content.groups (numbered (place_at (1 + n) (1 + k) 0) number)
groups_by_place knows xs n x k number there of = elim of.is [
  | inl e ↦ absurd (let zero_is : 1 + k ≡ 0 = ap (λ (a : Numbered). a.place.gs) e in omega (arith, zero_is))
  | inr h ↦ elim h.is [
    | inl e ↦ group_moved knows xs n x _ there of h e (sym (ap (λ (a : Numbered). a.place.isa) e))
    | inr s ↦ absurd (let zero_is : 0 ≡ 1 + s.j = ap (λ (a : Numbered). a.place.st) s.is in omega (arith, zero_is))
  ]
]

group_uses : (knows : List ℕ → Bool) (xs : List InterchangeEntry) (n : ℕ) (x : InterchangeEntry) (v : ℕ) (c : Option ℕ)
    → slice_get xs n ≡ Some x → is_indexed knows x ≡ true → c ≡ Some v
    → AreUses (index_places knows xs) (λ k. place_at (1 + n) (1 + k) 0) (OfGroup (1 + n) c) (holds_at (has_group_number c) x.content.groups)
group_uses knows xs n x v c there indexed is = record {
  there = λ m h.
      let g = there_holds (has_group_number c) x.content.groups m h in
      subst (λ (d : Option ℕ). Contains (index_places knows xs) (numbered (place_at (1 + n) (1 + m) 0) (OfGroup (1 + n) d)))
      (sym (agreed c (control_in g.0) g.2))
      (places_there knows 1 xs n x _ there indexed (in_back (interchange_item (1 + n) x) _ _
      (group_there (1 + n) 1 x.content.groups m g.0 g.1)));
  only = λ r h.
      let g = groups_by_number knows xs n x r c there (of_places knows 1 xs _ h) in (
        g.k,
        ap (λ (a : Numbered). a.place) g.is,
        holds_there (has_group_number c) x.content.groups g.k g.group g.there
            (agrees v c (control_in g.group) is (same_group_control (1 + n) (1 + n) c _ (ap number_in g.is))),
      );
}

pub group_first : (knows : List ℕ → Bool) (xs : List InterchangeEntry) (n : ℕ) (x : InterchangeEntry) (k : ℕ) (g : GroupEntry) (v : ℕ)
    → slice_get xs n ≡ Some x → is_indexed knows x ≡ true → slice_get x.content.groups k ≡ Some g → control_in g ≡ Some v
    → ((m : ℕ) × (m < k) × (holds_at (has_group_number (control_in g)) x.content.groups m ≡ true))
    ↔ ((q : Place) × IsEarlier knows xs (place_at (1 + n) (1 + k) 0) q)
group_first knows xs n x k g v there indexed at is =
    let c = control_in g in
    first_use (index_places knows xs) (λ i. place_at (1 + n) (1 + i) 0) (OfGroup (1 + n) c) (holds_at
    (has_group_number c) x.content.groups) k
    (groups_in_order (1 + n)) (group_uses knows xs n x v c there indexed is)
    (λ other h.
    let o = groups_by_place knows xs n x k other there (of_places knows 1 xs _ h) in
    let same : g ≡ o.group = at_same x.content.groups k o.k g o.group at o.there
    (let e : 1 + k ≡ 1 + o.k = ap (λ (a : Numbered). a.place.gs) o.is in omega (arith, e)) in
    ap number_in o.is ∙ ap (λ (z : GroupEntry). OfGroup (1 + n) (control_in z)) (sym same))
    (holds_there (has_group_number c) x.content.groups k g at (agrees v c c is refl))
