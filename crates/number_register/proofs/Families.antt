-- The interchanges of an index, the groups of an interchange and the sets of a group each are places whose numbers are listed.
use Rattle.std.proofs.Common.{◌≡◌, ℕ, zero, suc, ◌+◌, inl, inr, List, [], ◌∷◌}
use Rattle.std.proofs.Common.{Option, Some, None, map, refl, sym, ap, ◌∙◌, arith}
use Rattle.std.specs.Prelude.{Contains, option_map, slice_get}
use Rattle.std.proofs.lemmas.Option.{none-some, slice_get-map}
use Rattle.hub_kinds.specs.Words.{number_of}
use Rattle.hub_kinds.specs.declared.limits.TheConstants.{MOST_CONTROL_DIGITS}
use Rattle.hub_kinds.specs.declared.place.Place.{Place}
use Rattle.x12_bytes.specs.Header.{field_of}
use Rattle.x12_segs.specs.Words.{element_of}
use Rattle.env_index.specs.Words.{IndexEntry, IndexValue, Number, OfInterchange, OfGroup, OfSet, Numbered, place_at, GroupEntry}
use Rattle.env_index.specs.declared.entry.SetEnvelope.{SetEnvelope}
use Rattle.number_register.specs.Recording.{numbered_in}
use Rattle.number_register.specs.Slots.{code_of, fields_of, group_code, group_place, interchange_code}
use Rattle.number_register.specs.Slots.{groups_of, interchange_place, set_control, set_place, sets_of}
use Rattle.number_register.proofs.Ordering.{groups_in_order, interchanges_in_order, sets_in_order}
use Rattle.number_register.proofs.ForAbove.{numbered}
use Rattle.number_register.proofs.Places.{groups_there_of, of_entries, sets_there_of, IsOfEntry}
use Rattle.number_register.proofs.Uses.{AreUses}

abbrev control_of : GroupEntry → Option ℕ
control_of g = number_of MOST_CONTROL_DIGITS (element_of g.header 6)

-- what an item of the list is
record IsInterchange (es : List IndexEntry) (a : Numbered) : Type 0 where
  pub n : ℕ
  pub e : IndexEntry
  pub there : slice_get es n ≡ Some e
  pub place : a.place ≡ interchange_place n
  pub number : a.number ≡ OfInterchange (fields_of e)

record IsGroup (es : List IndexEntry) (a : Numbered) : Type 0 where
  pub n : ℕ
  pub k : ℕ
  pub g : GroupEntry
  pub there : slice_get (groups_of es n) k ≡ Some g
  pub place : a.place ≡ group_place n k
  pub number : a.number ≡ OfGroup (n + 1) (control_of g)

record IsSet (es : List IndexEntry) (a : Numbered) : Type 0 where
  pub n : ℕ
  pub k : ℕ
  pub j : ℕ
  pub s : SetEnvelope
  pub there : slice_get (sets_of es n k) j ≡ Some s
  pub place : a.place ≡ set_place n k j
  pub number : a.number ≡ OfSet (n + 1) (k + 1) (set_control s)

data IsItem (es : List IndexEntry) (a : Numbered) : Type 0 where
  AnInterchange : IsInterchange es a → IsItem es a
  AGroupOf : IsGroup es a → IsItem es a
  ASetOf : IsSet es a → IsItem es a

one_more : (n : ℕ) → 1 + n ≡ n + 1
one_more n = omega arith

item_by : (es : List IndexEntry) (a : Numbered) → IsOfEntry 1 es a → IsItem es a
item_by es a of = elim of.is [
  | inl e ↦ AnInterchange (record {
    n = of.n;
    e = of.e;
    there = of.there;
    place = ap (λ (x : Numbered). x.place) e ∙ ap (λ (m : ℕ). place_at m 0 0) (one_more of.n);
    number = ap (λ (x : Numbered). x.number) e;
  })
  | inr h ↦ elim h.is [
    | inl e ↦ AGroupOf (record {
      n = of.n;
      k = h.k;
      g = h.group;
      there = ap (λ (gs : List GroupEntry). slice_get gs h.k) (groups_there_of es of.n of.e of.there) ∙ h.there;
      place = ap (λ (x : Numbered). x.place) e
          ∙ ap (λ (m : ℕ). place_at m (1 + h.k) 0) (one_more of.n)
          ∙ ap (λ (m : ℕ). place_at (of.n + 1) m 0) (one_more h.k);
      number = ap (λ (x : Numbered). x.number) e ∙ ap (λ (m : ℕ). OfGroup m (control_of h.group)) (one_more of.n);
    })
    | inr s ↦ ASetOf (record {
      n = of.n;
      k = h.k;
      j = s.j;
      s = s.set;
      there = ap (λ (ss : List SetEnvelope). slice_get ss s.j) (sets_there_of es of.n h.k of.e h.group of.there h.there) ∙ s.there;
      place = ap (λ (x : Numbered). x.place) s.is
          ∙ ap (λ (m : ℕ). place_at m (1 + h.k) (1 + s.j)) (one_more of.n)
          ∙ ap (λ (m : ℕ). place_at (of.n + 1) m (1 + s.j)) (one_more h.k)
          ∙ ap (λ (m : ℕ). place_at (of.n + 1) (h.k + 1) m) (one_more s.j);
      number = ap (λ (x : Numbered). x.number) s.is
          ∙ ap (λ (m : ℕ). OfSet m (1 + h.k) (set_control s.set)) (one_more of.n)
          ∙ ap (λ (m : ℕ). OfSet (of.n + 1) m (set_control s.set)) (one_more h.k);
    })
  ]
]

item : (index : IndexValue) (a : Numbered) → Contains (numbered_in index) a → IsItem index.entries a
item index a h = item_by index.entries a (of_entries 1 index.entries a h)

-- an item of a mapped list
at_map : {A B : Type 0} (f : A → B) (xs : List A) (i : ℕ) (x : A) → slice_get xs i ≡ Some x → slice_get (map f xs) i ≡ Some (f x)
at_map f xs i x is = slice_get-map f xs i ∙ ap (option_map f) is

same_up : (a b : ℕ) → a + 1 ≡ b + 1 → a ≡ b
same_up a b e = omega (arith, e)

not_nought : (a : ℕ) → a + 1 ≡ 0 → ⊥
not_nought a e = omega (arith, e)

-- numbers of one kind
set_parts : (n k n' k' : ℕ) (c c' : List ℕ) → OfSet n k c ≡ OfSet n' k' c' → (n ≡ n') × (k ≡ k') × (c ≡ c')
set_parts n k n' k' c c' e =
    let x : n ≡ n' = cc in let y : k ≡ k' = cc in let z : c ≡ c' = cc in (x, y, z)

group_parts : (n n' : ℕ) (c c' : Option ℕ) → OfGroup n c ≡ OfGroup n' c' → (n ≡ n') × (c ≡ c')
group_parts n n' c c' e = let x : n ≡ n' = cc in let y : c ≡ c' = cc in (x, y)

interchange_parts : (c c' : List (List ℕ)) → OfInterchange c ≡ OfInterchange c' → c ≡ c'
interchange_parts c c' e = cc

set_is_no_interchange : (n k : ℕ) (c : List ℕ) (f : List (List ℕ)) → OfSet n k c ≡ OfInterchange f → ⊥
set_is_no_interchange n k c f e = cc

set_is_no_group : (n k m : ℕ) (c : List ℕ) (d : Option ℕ) → OfSet n k c ≡ OfGroup m d → ⊥
set_is_no_group n k m c d e = cc

group_is_no_interchange : (n : ℕ) (d : Option ℕ) (f : List (List ℕ)) → OfGroup n d ≡ OfInterchange f → ⊥
group_is_no_interchange n d f e = cc

-- a code of a group's number, and back
abbrev pub number_by : ℕ → Option ℕ
number_by zero = None
number_by (suc n) = Some n

by_code : (c : Option ℕ) → number_by (code_of c) ≡ c
by_code None = refl
by_code (Some n) = (let e : n + 1 ≡ suc n = omega arith in ap number_by e)

code_by : (v : ℕ) → code_of (number_by v) ≡ v
code_by zero = refl
code_by (suc n) = omega arith

-- a key of an interchange's number, which its fields determine
abbrev pub interchange_by : ℕ × List (List ℕ) → Number
interchange_by v = OfInterchange v.1

code_by_fields : (e f : IndexEntry) → fields_of e ≡ fields_of f → interchange_code e ≡ interchange_code f
code_by_fields e f same =
    let thirteen : field_of e.interchange.header 13 ≡ field_of f.interchange.header 13 = cc in
    let code = ap (λ (t : List ℕ). code_of (number_of MOST_CONTROL_DIGITS t)) thirteen in
    λ i. (code i, same i)

of_map : {A B : Type 0} (f : A → B) (xs : List A) (i : ℕ) (y : B) → slice_get (map f xs) i ≡ Some y → (x : A) × (f x ≡ y)
of_map f [] i y is = absurd (none-some y is)
of_map f (x ∷ xs) zero y is = let e : f x ≡ y = cc in (x, e)
of_map f (x ∷ xs) (suc i) y is = of_map f xs i y is

module _ (index : IndexValue) where
  pub interchange_uses : AreUses index interchange_place interchange_by (map interchange_code index.entries)
  interchange_uses = record {
    order = interchanges_in_order;
    single = λ m other h. single m other (item index _ h);
    only = λ i r v own h. only i r v own (item index _ h);
  } where
    single : (m : ℕ) (other : Number) → IsItem index.entries (numbered (interchange_place m) other)
        → (v : ℕ × List (List ℕ)) × (slice_get (map interchange_code index.entries) m ≡ Some v) × (other ≡ interchange_by v)
    single m other (AnInterchange x) =
        let e = same_up m x.n (ap (λ (p : Place). p.isa) x.place) in (
          interchange_code x.e,
          ap (slice_get (map interchange_code index.entries)) e ∙ at_map interchange_code index.entries x.n x.e x.there,
          x.number,
        )
    single m other (AGroupOf x) = absurd (not_nought x.k (sym (ap (λ (p : Place). p.gs) x.place)))
    single m other (ASetOf x) = absurd (not_nought x.k (sym (ap (λ (p : Place). p.gs) x.place)))

    only : (i : ℕ) (r : Place) (v : ℕ × List (List ℕ)) → slice_get (map interchange_code index.entries) i ≡ Some v
        → IsItem index.entries (numbered r (interchange_by v))
        → (m : ℕ) × (r ≡ interchange_place m) × (slice_get (map interchange_code index.entries) m ≡ Some v)
    only i r v own (AnInterchange x) =
        let of = of_map interchange_code index.entries i v own in
        let fields : fields_of x.e ≡ fields_of of.0 =
        sym (ap (λ (w : ℕ × List (List ℕ)). w.1) of.1 ∙ interchange_parts v.1 (fields_of x.e) x.number) in (
          x.n,
          x.place,
          at_map interchange_code index.entries x.n x.e x.there
              ∙ ap (λ (w : ℕ × List (List ℕ)). Some w) (code_by_fields x.e of.0 fields ∙ of.1),
        )
    only i r v own (AGroupOf x) = absurd (group_is_no_interchange (x.n + 1) (control_of x.g) v.1 (sym x.number))
    only i r v own (ASetOf x) = absurd (set_is_no_interchange (x.n + 1) (x.k + 1) (set_control x.s) v.1 (sym x.number))

  pub group_uses : (n : ℕ) → AreUses index (group_place n) (λ c. OfGroup (n + 1) (number_by c))
      (map group_code (groups_of index.entries n))
  group_uses n = record {
    order = groups_in_order (n + 1);
    single = λ m other h. single m other (item index _ h);
    only = λ _ r v own h. only r v (item index _ h);
  } where
    at : (x : ℕ) (k : ℕ) (g : GroupEntry) → n ≡ x → slice_get (groups_of index.entries x) k ≡ Some g
        → slice_get (map group_code (groups_of index.entries n)) k ≡ Some (group_code g)
    at x k g e there =
        at_map group_code (groups_of index.entries n) k g (ap (λ (y : ℕ). slice_get (groups_of index.entries y) k) e ∙ there)

    single : (m : ℕ) (other : Number) → IsItem index.entries (numbered (group_place n m) other)
        → (v : ℕ) × (slice_get (map group_code (groups_of index.entries n)) m ≡ Some v) × (other ≡ OfGroup (n + 1) (number_by v))
    single m other (AnInterchange x) = absurd (not_nought m (ap (λ (p : Place). p.gs) x.place))
    single m other (AGroupOf x) =
        let e = same_up n x.n (ap (λ (p : Place). p.isa) x.place) in
        let f = same_up m x.k (ap (λ (p : Place). p.gs) x.place) in (
          group_code x.g,
          ap (slice_get (map group_code (groups_of index.entries n))) f ∙ at x.n x.k x.g e x.there,
          x.number ∙ ap (λ (y : ℕ). OfGroup (y + 1) (control_of x.g)) (sym e)
              ∙ ap (OfGroup (n + 1)) (sym (by_code (control_of x.g))),
        )
    single m other (ASetOf x) = absurd (not_nought x.j (sym (ap (λ (p : Place). p.st) x.place)))

    only : (r : Place) (v : ℕ) → IsItem index.entries (numbered r (OfGroup (n + 1) (number_by v)))
        → (m : ℕ) × (r ≡ group_place n m) × (slice_get (map group_code (groups_of index.entries n)) m ≡ Some v)
    only r v (AnInterchange x) = absurd (group_is_no_interchange (n + 1) (number_by v) (fields_of x.e) x.number)
    only r v (AGroupOf x) =
        let both = group_parts (n + 1) (x.n + 1) (number_by v) (control_of x.g) x.number in
        let e = same_up n x.n both.0 in (
          x.k,
          x.place ∙ ap (λ (y : ℕ). group_place y x.k) (sym e),
          at x.n x.k x.g e x.there ∙ ap (λ (c : Option ℕ). Some (code_of c)) (sym both.1) ∙ ap (λ (c : ℕ). Some c) (code_by v),
        )
    only r v (ASetOf x) = absurd (set_is_no_group (x.n + 1) (x.k + 1) (n + 1) (set_control x.s) (number_by v) (sym x.number))

  pub set_uses : (n k : ℕ) → AreUses index (set_place n k) (OfSet (n + 1) (k + 1)) (map set_control (sets_of index.entries n k))
  set_uses n k = record {
    order = sets_in_order (n + 1) (k + 1);
    single = λ m other h. single m other (item index _ h);
    only = λ _ r v own h. only r v (item index _ h);
  } where
    at : (x y j : ℕ) (s : SetEnvelope) → n ≡ x → k ≡ y → slice_get (sets_of index.entries x y) j ≡ Some s
        → slice_get (map set_control (sets_of index.entries n k)) j ≡ Some (set_control s)
    at x y j s e f there =
        at_map set_control (sets_of index.entries n k) j s
        (ap (λ (z : ℕ). slice_get (sets_of index.entries z k) j) e ∙ ap (λ (z : ℕ). slice_get (sets_of index.entries x z) j) f ∙ there)

    single : (m : ℕ) (other : Number) → IsItem index.entries (numbered (set_place n k m) other)
        → (v : List ℕ) × (slice_get (map set_control (sets_of index.entries n k)) m ≡ Some v) × (other ≡ OfSet (n + 1) (k + 1) v)
    single m other (AnInterchange x) = absurd (not_nought k (ap (λ (p : Place). p.gs) x.place))
    single m other (AGroupOf x) = absurd (not_nought m (ap (λ (p : Place). p.st) x.place))
    single m other (ASetOf x) =
        let e = same_up n x.n (ap (λ (p : Place). p.isa) x.place) in
        let f = same_up k x.k (ap (λ (p : Place). p.gs) x.place) in
        let g = same_up m x.j (ap (λ (p : Place). p.st) x.place) in (
          set_control x.s,
          ap (slice_get (map set_control (sets_of index.entries n k))) g ∙ at x.n x.k x.j x.s e f x.there,
          x.number ∙ ap (λ (y : ℕ). OfSet (y + 1) (x.k + 1) (set_control x.s)) (sym e)
              ∙ ap (λ (y : ℕ). OfSet (n + 1) (y + 1) (set_control x.s)) (sym f),
        )

    only : (r : Place) (v : List ℕ) → IsItem index.entries (numbered r (OfSet (n + 1) (k + 1) v))
        → (m : ℕ) × (r ≡ set_place n k m) × (slice_get (map set_control (sets_of index.entries n k)) m ≡ Some v)
    only r v (AnInterchange x) = absurd (set_is_no_interchange (n + 1) (k + 1) v (fields_of x.e) x.number)
    only r v (AGroupOf x) = absurd (set_is_no_group (n + 1) (k + 1) (x.n + 1) v (control_of x.g) x.number)
    only r v (ASetOf x) =
        let all = set_parts (n + 1) (k + 1) (x.n + 1) (x.k + 1) v (set_control x.s) x.number in
        let e = same_up n x.n all.0 in
        let f = same_up k x.k all.1 in (
          x.j,
          x.place ∙ ap (λ (y : ℕ). set_place y x.k x.j) (sym e) ∙ ap (λ (y : ℕ). set_place n y x.j) (sym f),
          at x.n x.k x.j x.s e f x.there ∙ ap (λ (c : List ℕ). Some c) (sym all.2),
        )
