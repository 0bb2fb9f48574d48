-- For crates above: which places of an interchange's groups and sets have which numbers, and what stands in a list.
use Rattle.std.proofs.Common.{◌≡◌, ℕ, zero, suc, ◌+◌, ◌<◌, ◌⊎◌, inl, inr, List, [], ◌∷◌, ◌++◌, Some, refl, ap, sym, ◌∙◌, subst, arith}
use Rattle.std.specs.Prelude.{Contains, slice_get}
use Rattle.std.proofs.lemmas.List.Elements.{Contains-append_cases, Contains-append_left, Contains-append_right, Contains-push}
use Rattle.std.proofs.lemmas.List.Elements.{Contains-push_cases}
use Rattle.std.proofs.lemmas.Option.{none-some}
use Rattle.hub_kinds.specs.Words.{number_of}
use Rattle.hub_kinds.specs.declared.limits.TheConstants.{MOST_CONTROL_DIGITS}
use Rattle.hub_kinds.specs.declared.place.Place.{Place}
use Rattle.x12_segs.specs.Words.{element_of}
use Rattle.env_index.specs.Words.{InterchangeEntry, Number, OfGroup, OfSet, Numbered, group_numbers_from, interchange_number}
use Rattle.env_index.specs.Words.{place_at, set_numbers_from, GroupEntry}
use Rattle.env_index.specs.declared.entry.SetEnvelope.{SetEnvelope}

pub no_member : {A : Type 0} (a : A) → Contains [] a → ⊥
no_member a h = let l : h.0 < 0 = h.1 in omega arith

pub contains_one : {A : Type 0} (x a : A) → Contains (x ∷ []) a → a ≡ x
contains_one x a h = elim (Contains-push_cases [] x a h) [ inl e ↦ absurd (no_member a e) | inr e ↦ sym e ]

pub one_contains : {A : Type 0} (x : A) → Contains (x ∷ []) x
one_contains x = Contains-push [] x

abbrev pub numbered : Place → Number → Numbered
numbered place number = record { place = place; number = number }

-- of a set, of which the first has this number
pub record IsOfSet (isa gs first : ℕ) (sets : List SetEnvelope) (a : Numbered) : Type 0 where
  pub j : ℕ
  pub set : SetEnvelope
  pub there : slice_get sets j ≡ Some set
  pub is : a ≡ numbered (place_at isa gs (first + j)) (OfSet isa gs (element_of set.header 2))

-- of a group or one of its sets
pub record IsOfGroup (isa first : ℕ) (groups : List GroupEntry) (a : Numbered) : Type 0 where
  pub k : ℕ
  pub group : GroupEntry
  pub there : slice_get groups k ≡ Some group
  pub is : (a ≡ numbered (place_at isa (first + k) 0) (OfGroup isa (number_of MOST_CONTROL_DIGITS (element_of group.header 6))))
      ⊎ IsOfSet isa (first + k) 1 group.sets a

pub in_cons : {A : Type 0} (x : A) (xs : List A) (a : A) → Contains (x ∷ xs) a → (a ≡ x) ⊎ Contains xs a
in_cons x xs a h = elim (Contains-append_cases (x ∷ []) xs a h) [ inl e ↦ inl (contains_one x a e) | inr e ↦ inr e ]

pub of_sets : (isa gs first : ℕ) (sets : List SetEnvelope) (a : Numbered) → Contains (set_numbers_from isa gs first sets) a
    → IsOfSet isa gs first sets a
of_sets isa gs first [] a h = absurd (no_member a h)
of_sets isa gs first (s ∷ sets) a h = elim (in_cons _ (set_numbers_from isa gs (first + 1) sets) a h) [
  | inl e ↦ record {
    j = 0;
    set = s;
    there = refl;
    is = e ∙ ap (λ (n : ℕ). numbered (place_at isa gs n) (OfSet isa gs (element_of s.header 2))) (omega arith);
  }
  | inr e ↦ let m = of_sets isa gs (first + 1) sets a e in record {
    j = suc m.j;
    set = m.set;
    there = m.there;
    is = m.is ∙ ap (λ (n : ℕ). numbered (place_at isa gs n) (OfSet isa gs (element_of m.set.header 2))) (omega arith);
  }
]

-- numbered places of a list and what stands after them
pub in_front : {A : Type 0} (x : A) (xs : List A) → Contains (x ∷ xs) x
in_front x xs = Contains-append_left (x ∷ []) xs x (one_contains x)

pub in_back : {A : Type 0} (x : A) (xs : List A) (a : A) → Contains xs a → Contains (x ∷ xs) a
in_back x xs a h = Contains-append_right (x ∷ []) xs a h

abbrev pub set_item : (isa gs st : ℕ) → SetEnvelope → Numbered
set_item isa gs st set = numbered (place_at isa gs st) (OfSet isa gs (element_of set.header 2))

pub sets_there : (isa gs first : ℕ) (sets : List SetEnvelope) (j : ℕ) (set : SetEnvelope) → slice_get sets j ≡ Some set
    → Contains (set_numbers_from isa gs first sets) (set_item isa gs (first + j) set)
sets_there isa gs first [] j set there = absurd (none-some set there)
sets_there isa gs first (s ∷ sets) zero set there =
    let same : s ≡ set = cc in
    subst (λ (a : Numbered). Contains (set_numbers_from isa gs first (s ∷ sets)) a)
    (ap (λ (x : SetEnvelope). set_item isa gs first x) same ∙ ap (λ (n : ℕ). set_item isa gs n set) (omega arith))
    (in_front (set_item isa gs first s) (set_numbers_from isa gs (first + 1) sets))
sets_there isa gs first (s ∷ sets) (suc j) set there =
    subst (λ (a : Numbered). Contains (set_numbers_from isa gs first (s ∷ sets)) a)
    (ap (λ (n : ℕ). set_item isa gs n set) (omega arith))
    (in_back (set_item isa gs first s) (set_numbers_from isa gs (first + 1) sets) (set_item isa gs (first + 1 + j) set)
    (sets_there isa gs (first + 1) sets j set there))

abbrev pub group_item : (isa gs : ℕ) → GroupEntry → Numbered
group_item isa gs group = numbered (place_at isa gs 0) (OfGroup isa (number_of MOST_CONTROL_DIGITS (element_of group.header 6)))

later_set : (isa gs other : ℕ) (sets : List SetEnvelope) (a : Numbered) → gs ≡ other → IsOfSet isa gs 1 sets a → IsOfSet isa other 1
    sets a
later_set isa gs other sets a same of = subst (λ (n : ℕ). IsOfSet isa n 1 sets a) same of

pub of_groups : (isa first : ℕ) (groups : List GroupEntry) (a : Numbered) → Contains (group_numbers_from isa first groups) a
    → IsOfGroup isa first groups a
of_groups isa first [] a h = absurd (no_member a h)
of_groups isa first (g ∷ groups) a h =
    elim (in_cons (group_item isa first g) (set_numbers_from isa first 1 g.sets ++ group_numbers_from isa (first + 1) groups) a h) [
      | inl e ↦ record {
        k = 0;
        group = g;
        there = refl;
        is = inl (e ∙ ap (λ (n : ℕ). group_item isa n g) (omega arith));
      }
      | inr e ↦ elim (Contains-append_cases (set_numbers_from isa first 1 g.sets) (group_numbers_from isa (first + 1) groups) a e) [
        | inl f ↦ record {
          k = 0;
          group = g;
          there = refl;
          is = inr (later_set isa first (first + 0) g.sets a (omega arith) (of_sets isa first 1 g.sets a f));
        }
        | inr f ↦ let m = of_groups isa (first + 1) groups a f in record {
          k = suc m.k;
          group = m.group;
          there = m.there;
          is = elim m.is [
            | inl i ↦ inl (i ∙ ap (λ (n : ℕ). group_item isa n m.group) (omega arith))
            | inr i ↦ inr (later_set isa (first + 1 + m.k) (first + suc m.k) m.group.sets a (omega arith) i)
          ];
        }
      ]
    ]

-- what a group adds, before the groups after it
abbrev pub group_items : (isa gs : ℕ) → GroupEntry → List Numbered
group_items isa gs g = group_item isa gs g ∷ set_numbers_from isa gs 1 g.sets

pub groups_there : (isa first : ℕ) (groups : List GroupEntry) (k : ℕ) (group : GroupEntry) (a : Numbered)
    → slice_get groups k ≡ Some group → Contains (group_items isa (first + k) group) a → Contains (group_numbers_from isa first groups) a
groups_there isa first [] k group a there h = absurd (none-some group there)
groups_there isa first (g ∷ groups) zero group a there h =
    let same : g ≡ group = cc in
    Contains-append_left (group_items isa first g) (group_numbers_from isa (first + 1) groups) a
    (subst (λ (x : GroupEntry). Contains (group_items isa first x) a) (sym same)
    (subst (λ (n : ℕ). Contains (group_items isa n group) a) (omega arith) h))
groups_there isa first (g ∷ groups) (suc k) group a there h =
    Contains-append_right (group_items isa first g) (group_numbers_from isa (first + 1) groups) a
    (groups_there isa (first + 1) groups k group a there
    (subst (λ (n : ℕ). Contains (group_items isa n group) a) (omega arith) h))

pub group_there : (isa first : ℕ) (groups : List GroupEntry) (k : ℕ) (group : GroupEntry) → slice_get groups k ≡ Some group
    → Contains (group_numbers_from isa first groups) (group_item isa (first + k) group)
group_there isa first groups k group there =
    groups_there isa first groups k group _ there (in_front (group_item isa (first + k) group) (set_numbers_from isa
    (first + k) 1 group.sets))

pub set_there : (isa first : ℕ) (groups : List GroupEntry) (k : ℕ) (group : GroupEntry) (j : ℕ) (set : SetEnvelope)
    → slice_get groups k ≡ Some group → slice_get group.sets j ≡ Some set
    → Contains (group_numbers_from isa first groups) (set_item isa (first + k) (1 + j) set)
set_there isa first groups k group j set there at =
    groups_there isa first groups k group _ there (in_back (group_item isa (first + k) group) (set_numbers_from isa
    (first + k) 1 group.sets) _
    (sets_there isa (first + k) 1 group.sets j set at))

abbrev pub interchange_item : (isa : ℕ) → InterchangeEntry → Numbered
interchange_item isa x = numbered (place_at isa 0 0) (interchange_number x.header)

later_group : (isa other : ℕ) (groups : List GroupEntry) (a : Numbered) → isa ≡ other → IsOfGroup isa 1 groups a
    → IsOfGroup other 1 groups a
later_group isa other groups a same of = subst (λ (n : ℕ). IsOfGroup n 1 groups a) same of

pub of_items : (isa : ℕ) (x : InterchangeEntry) (a : Numbered) → Contains
    (interchange_item isa x ∷ group_numbers_from isa 1 x.content.groups) a
    → (a ≡ interchange_item isa x) ⊎ IsOfGroup isa 1 x.content.groups a
of_items isa x a h = elim (in_cons (interchange_item isa x) (group_numbers_from isa 1 x.content.groups) a h) [
  | inl e ↦ inl e
  | inr e ↦ inr (of_groups isa 1 x.content.groups a e)
]

pub moved : (isa other : ℕ) (x : InterchangeEntry) (a : Numbered) → isa ≡ other
    → (a ≡ interchange_item isa x) ⊎ IsOfGroup isa 1 x.content.groups a
    → (a ≡ interchange_item other x) ⊎ IsOfGroup other 1 x.content.groups a
moved isa other x a same h = subst (λ (n : ℕ). (a ≡ interchange_item n x) ⊎ IsOfGroup n 1 x.content.groups a) same h
