-- Of the faults of one key the first stands.
use Rattle.std.proofs.Common.{◌≡◌, ◌↔◌, ◌⊎◌, inl, inr, ℕ, List, [], ◌∷◌, ◌++◌, refl, sym, ap, ◌∙◌, subst}
use Rattle.std.specs.Prelude.{fold}
use Rattle.std.specs.List.{AllByRecursion, Contains}
use Rattle.std.specs.Cmp.Lexicographic.{slice_cmp}
use Rattle.std.specs.Ordering.{nat_cmp, match_ordering, ordering_reverse}
use Rattle.std.specs.declared.cmp.Ordering.{Ordering}
use Rattle.std.specs.declared.cmp.Ordering.TheVariants.{Less, Equal, Greater}
use Rattle.std.proofs.lemmas.Map.Lookups.{exact_bytes}
use Rattle.std.proofs.lemmas.List.{append_assoc, append-nil}
use Rattle.std.proofs.lemmas.List.Elements.{Contains-append_left, Contains-append_right, Contains-append_cases}
use Rattle.hub_kinds.specs.declared.fault.Fault.{Fault}
use Rattle.guide_tree.proofs.ForAbove.{In}
use Rattle.guide_law.proofs.ForAbove.{in_contains, contains_in}
use Rattle.elem_rules.proofs.ForAbove.{no_member, contains_one, one_contains}
use Rattle.night_definition.specs.Codes.{key_of}
use Rattle.night_definition.specs.Sets.{with_fault}
use Rattle.night_equal_set.specs.Order.{IsFirstBehind, FirstsStand}
use Rattle.night_equal_set.proofs.Order.{order, total, Rising, rising_with}

same_key : (f x : Fault) → order f x ≡ Equal → key_of f ≡ key_of x
same_key f x is = exact_bytes (key_of f) (key_of x) is

not_less : (f z : Fault) → order f z ≡ Less → key_of z ≡ key_of f → ⊥
not_less f z is same =
    let less : order z z ≡ Less = subst (λ k. slice_cmp nat_cmp k (key_of z) ≡ Less) (sym same) is in
    let no : Less ≡ Greater = sym less ∙ total.antisymm z z ∙ ap ordering_reverse less in
    cc

not_greater : (f z : Fault) → order f z ≡ Greater → key_of z ≡ key_of f → ⊥
not_greater f z is same = not_less z f (total.antisymm z f ∙ ap ordering_reverse is) (sym same)

pick : (P : Fault → Type 0) (xs : List Fault) (f : Fault) → AllByRecursion P xs → In xs f → P f
pick P [] f all h = absurd h
pick P (x ∷ xs) f all (inl e) = subst P e all.0
pick P (x ∷ xs) f all (inr h) = pick P xs f all.1 h

-- none of these has the key
abbrev Lacks : List Fault → Fault → Type 0
Lacks xs f = (z : Fault) → In xs z → key_of z ≡ key_of f → ⊥

lacks_all : (f x : Fault) (xs : List Fault) → order f x ≡ Less → AllByRecursion (λ y. order x y ≡ Less) xs → Lacks (x ∷ xs) f
lacks_all f x xs is all z (inl e) same = not_less f z (subst (λ z. order f z ≡ Less) e is) same
lacks_all f x xs is all z (inr h) same = not_less f z (total.trans f x z is (pick (λ y. order x y ≡ Less) xs z all h)) same

lacks_more : (f x : Fault) (xs : List Fault) → order f x ≡ Greater → Lacks xs f → Lacks (x ∷ xs) f
lacks_more f x xs is none z (inl e) same = not_greater f z (subst (λ z. order f z ≡ Greater) e is) same
lacks_more f x xs is none z (inr h) same = none z h same

from_with : (xs : List Fault) (f y : Fault) → Rising xs → In (with_fault xs f) y → In xs y ⊎ ((f ≡ y) × Lacks xs f)
from_with [] f y up (inl e) = inr (e, λ z h same. absurd h)
from_with [] f y up (inr h) = absurd h
from_with (x ∷ xs) f y up h = by (order f x) refl h (λ h. from_with xs f y up.1 h)
  where
    by : (o : Ordering) → order f x ≡ o → In (match_ordering o (f ∷ x ∷ xs) (x ∷ xs) (x ∷ with_fault xs f)) y
        → (In (with_fault xs f) y → In xs y ⊎ ((f ≡ y) × Lacks xs f)) → In (x ∷ xs) y ⊎ ((f ≡ y) × Lacks (x ∷ xs) f)
    by Less is h rest = elim h [ inl e ↦ inr (e, lacks_all f x xs is up.0) | inr g ↦ inl g ]
    by Equal is h rest = inl h
    by Greater is h rest = elim h [
      | inl e ↦ inl (inl e)
      | inr g ↦ elim (rest g) [ inl k ↦ inl (inr k) | inr k ↦ inr (k.0, lacks_more f x xs is k.1) ]
    ]

old_with : (xs : List Fault) (f y : Fault) → In xs y → In (with_fault xs f) y
old_with [] f y h = absurd h
old_with (x ∷ xs) f y h = by (order f x) h (λ h. old_with xs f y h)
  where
    by : (o : Ordering) → In (x ∷ xs) y → (In xs y → In (with_fault xs f) y)
        → In (match_ordering o (f ∷ x ∷ xs) (x ∷ xs) (x ∷ with_fault xs f)) y
    by Less h rest = inr h
    by Equal h rest = h
    by Greater h rest = elim h [ inl e ↦ inl e | inr g ↦ inr (rest g) ]

new_with : (xs : List Fault) (f : Fault) → Lacks xs f → In (with_fault xs f) f
new_with [] f none = inl refl
new_with (x ∷ xs) f none = by (order f x) refl (new_with xs f (λ z h same. none z (inr h) same))
  where
    by : (o : Ordering) → order f x ≡ o → In (with_fault xs f) f → In (match_ordering o (f ∷ x ∷ xs) (x ∷ xs) (x ∷ with_fault xs f)) f
    by Less is rest = inl refl
    by Equal is rest = absurd (none x (inl refl) (sym (same_key f x is)))
    by Greater is rest = inr rest

abbrev HasKey : List Fault → Fault → Type 0
HasKey xs f = (w : Fault) × In xs w × (key_of w ≡ key_of f)

keyed_with : (xs : List Fault) (f : Fault) → HasKey (with_fault xs f) f
keyed_with [] f = (f, inl refl, refl)
keyed_with (x ∷ xs) f = by (order f x) refl (keyed_with xs f)
  where
    by : (o : Ordering) → order f x ≡ o → HasKey (with_fault xs f) f → HasKey
        (match_ordering o (f ∷ x ∷ xs) (x ∷ xs) (x ∷ with_fault xs f)) f
    by Less is rest = (f, inl refl, refl)
    by Equal is rest = (x, inl refl, sym (same_key f x is))
    by Greater is rest = (rest.0, inr rest.1, rest.2)

-- what was kept of those before
pub record Kept (acc before : List Fault) : Type 0 where
  pub up : Rising acc
  pub from : (z : Fault) → In acc z → Contains before z
  pub to : (z : Fault) → Contains before z → HasKey acc z

kept_more : (acc before : List Fault) (x : Fault) → Kept acc before → Kept (with_fault acc x) (before ++ x ∷ [])
kept_more acc before x kept = record {
  up = rising_with acc x kept.up;
  from = λ z h. elim (from_with acc x z kept.up h) [
    | inl g ↦ Contains-append_left before (x ∷ []) z (kept.from z g)
    | inr g ↦ Contains-append_right before (x ∷ []) z (subst (λ z. Contains (x ∷ []) z) g.0 (one_contains x))
  ];
  to = λ z c. elim (Contains-append_cases before (x ∷ []) z c) [
    | inl g ↦ let w = kept.to z g in (w.0, old_with acc x w.0 w.1, w.2)
    | inr g ↦ let w = keyed_with acc x in (w.0, w.1, w.2 ∙ ap key_of (sym (contains_one x z g)))
  ];
}

to : (acc before xs : List Fault) (y : Fault) → Kept acc before → In (fold with_fault acc xs) y → In acc y ⊎ IsFirstBehind before xs y
to acc before [] y kept h = inl h
to acc before (x ∷ xs) y kept h = elim (to (with_fault acc x) (before ++ x ∷ []) xs y (kept_more acc before x kept) h) [
  | inl g ↦ elim (from_with acc x y kept.up g) [
    | inl k ↦ inl k
    | inr k ↦ inr (inl (sym k.0, λ z c same. let w = kept.to z c in k.1 w.0 w.1 (w.2 ∙ same)))
  ]
  | inr g ↦ inr (inr g)
]

from : (acc before xs : List Fault) (y : Fault) → Kept acc before → In acc y ⊎ IsFirstBehind before xs y → In (fold with_fault acc xs) y
from acc before [] y kept h = elim h [ inl g ↦ g | inr g ↦ absurd g ]
from acc before (x ∷ xs) y kept h =
    from (with_fault acc x) (before ++ x ∷ []) xs y (kept_more acc before x kept) (elim h [
      | inl g ↦ inl (old_with acc x y g)
      | inr g ↦ elim g [
        | inl k ↦ inl (subst (λ z. In (with_fault acc x) z) (sym k.0) (new_with acc x (λ z i same. k.1 z (kept.from z i) same)))
        | inr k ↦ inr k
      ]
    ])

nothing_kept : Kept [] []
nothing_kept = record { up = tt; from = λ z h. absurd h; to = λ z c. absurd (no_member z c) }

kept_all : (acc before xs : List Fault) → Kept acc before → Kept (fold with_fault acc xs) (before ++ xs)
kept_all acc before [] kept = subst (λ l. Kept acc l) (sym (append-nil before)) kept
kept_all acc before (x ∷ xs) kept =
    subst (λ l. Kept (fold with_fault (with_fault acc x) xs) l) (append_assoc before (x ∷ []) xs)
    (kept_all (with_fault acc x) (before ++ x ∷ []) xs (kept_more acc before x kept))

-- of each key one is kept
pub keeps : (xs : List Fault) (f : Fault) → Contains xs f → (w : Fault) × Contains (fold with_fault [] xs) w × (key_of w ≡ key_of f)
keeps xs f c =
    let w = (kept_all [] [] xs nothing_kept).to f c in
    (w.0, in_contains (fold with_fault [] xs) w.0 w.1, w.2)

pub firsts : FirstsStand
firsts xs f = (
  λ c. elim (to [] [] xs f nothing_kept (contains_in (fold with_fault [] xs) f c)) [ inl h ↦ absurd h | inr h ↦ h ],
  λ h. in_contains (fold with_fault [] xs) f (from [] [] xs f nothing_kept (inr h)),
)
