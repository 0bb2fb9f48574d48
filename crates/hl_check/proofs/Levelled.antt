-- A hierarchy that looks whole is: where HLs are numbered from 1 on, a number is that of one HL alone.
use Rattle.std.proofs.Common.{◌≡◌, inl, inr, ℕ, zero, suc, ◌+◌, ◌<◌, ◌≤◌, Bool, true, false, ◌&&◌, ◌||◌, not, cond, codes}
use Rattle.std.proofs.Common.{List, [], ◌∷◌, length, take, drop, Option, Some, None, refl, sym, ap, subst, ◌∙◌, arith, true≢false}
use Rattle.std.specs.Prelude.{decimal, is_some, is_none, if◌then◌else◌}
use Rattle.std.specs.List.{slice_get, find, list_any}
use Rattle.std.specs.Option.{option_map_or}
use Rattle.std.specs.Str.{bytes_eq}
use Rattle.std.proofs.lemmas.Bool.{and_parts, false_from_ne_true, cases_eq}
use Rattle.std.proofs.lemmas.Fmt.{decimal_injective}
use Rattle.std.proofs.lemmas.List.{length-take-le}
use Rattle.std.proofs.lemmas.Option.{slice_get_within}
use Rattle.std.proofs.lemmas.Slice.Eq.{bytes_eq-Decides}
use Rattle.x12_bytes.specs.declared.delims.Delims.{Delims}
use Rattle.guide_tree.specs.declared.rows.HlRule.{HlRule}
use Rattle.guide_tree.specs.Words.{Segment}
use Rattle.elem_rules.specs.Divided.{is_filled}
use Rattle.hl_check.specs.Hierarchy.{hierarchical_id_of, parent_id_of, level_of, child_of, first_numbered, is_parent_wrong, is_listed}
use Rattle.hl_check.specs.Hierarchy.{is_level_wrong, is_named, IsHierarchyWhole}
use Rattle.hl_check.specs.Levels.{IsBelow, IsPlaced, HasChildren, LooksWhole, LooksWholeTo}

pub same_text : (xs ys : List ℕ) → bytes_eq xs ys ≡ true → xs ≡ ys
same_text xs ys e = (bytes_eq-Decides xs ys).0 e

own_text : (xs ys : List ℕ) → xs ≡ ys → bytes_eq xs ys ≡ true
own_text xs ys e = (bytes_eq-Decides xs ys).1 e

nothing : {X A : Type 0} (x : X) → None ≡ Some x → A
nothing x e = absurd (true≢false (sym (ap is_some e)))

in_take : {X : Type 0} (n : ℕ) (xs : List X) (j : ℕ) (x : X) → slice_get (take n xs) j ≡ Some x → (j < n) × (slice_get xs j ≡ Some x)
in_take zero [] j x e = nothing x e
in_take (suc n) [] j x e = nothing x e
in_take zero (y ∷ ys) j x e = nothing x e
in_take (suc n) (y ∷ ys) zero x e = (omega arith, e)
in_take (suc n) (y ∷ ys) (suc j) x e = let r = in_take n ys j x e in (omega (arith, r.0), r.1)

to_take : {X : Type 0} (n : ℕ) (xs : List X) (j : ℕ) (x : X) → slice_get xs j ≡ Some x → j < n → slice_get (take n xs) j ≡ Some x
to_take n [] j x e l = nothing x e
to_take zero (y ∷ ys) j x e l = absurd (omega (arith, l))
to_take (suc n) (y ∷ ys) zero x e l = e
to_take (suc n) (y ∷ ys) (suc j) x e l = to_take n ys j x e (omega (arith, l))

none_found : (test : Segment → Bool) (xs : List Segment) → ((j : ℕ) (x : Segment) → slice_get xs j ≡ Some x → test x ≡ false)
    → find test xs ≡ None
none_found test [] h = refl
none_found test (x ∷ xs) h =
    ap (λ (b : Bool). cond b (Some x) (find test xs)) (h 0 x refl) ∙ none_found test xs (λ j y e. h (suc j) y e)

one_found : (test : Segment → Bool) (xs : List Segment) (p : ℕ) (x : Segment) → slice_get xs p ≡ Some x → test x ≡ true
    → ((j : ℕ) (y : Segment) → slice_get xs j ≡ Some y → test y ≡ true → j ≡ p) → find test xs ≡ Some x
one_found test [] p x e t one = nothing x e
one_found test (z ∷ zs) zero x e t one =
    let same : z ≡ x = cc in
    ap (λ (b : Bool). cond b (Some z) (find test zs)) (ap test same ∙ t) ∙ ap Some same
one_found test (z ∷ zs) (suc p) x e t one =
    let no : test z ≡ false = false_from_ne_true (test z) (λ k. let w : 0 ≡ suc p = one 0 z refl k in absurd (omega (arith, w))) in
    ap (λ (b : Bool). cond b (Some z) (find test zs)) no
    ∙ one_found test zs p x e t (λ j y e2 t2. let w : suc j ≡ suc p = one (suc j) y e2 t2 in omega (arith, w))

abbrev AreCounted : List Segment → Type 0
AreCounted hls = (k : ℕ) (h : Segment) → slice_get hls k ≡ Some h → hierarchical_id_of h ≡ decimal (k + 1)

one_number : (hls : List Segment) → length hls < 4294967296 → AreCounted hls → (j k : ℕ) (g h : Segment) → slice_get hls j ≡ Some g
    → slice_get hls k ≡ Some h → hierarchical_id_of g ≡ hierarchical_id_of h → j ≡ k
one_number hls few counted j k g h gj hk same =
    let lj : j < length hls = slice_get_within hls j g gj in
    let lk : k < length hls = slice_get_within hls k h hk in
    let e : j + 1 ≡ k + 1 =
    decimal_injective (j + 1) (k + 1) (omega (arith, lj, few)) (omega (arith, lk, few))
    (sym (counted j g gj) ∙ same ∙ counted k h hk) in
    omega (arith, e)

-- no earlier HL has the number of a later one
number_new : (hls : List Segment) → length hls < 4294967296 → AreCounted hls → (k : ℕ) (h : Segment) → slice_get hls k ≡ Some h
    → first_numbered (hierarchical_id_of h) (take k hls) ≡ None
number_new hls few counted k h hk =
    none_found (λ g. bytes_eq (hierarchical_id_of g) (hierarchical_id_of h)) (take k hls) (λ j g e.
    let r = in_take k hls j g e in
    false_from_ne_true (bytes_eq (hierarchical_id_of g) (hierarchical_id_of h)) (λ t.
    let s : j ≡ k = one_number hls few counted j k g h r.1 hk (same_text (hierarchical_id_of g) (hierarchical_id_of h) t) in
    absurd (omega (arith, s, r.0))))

right_number : (s f : Bool) (o : Option Segment) (same : Bool) → o ≡ None → same ≡ true → (f && (is_some o || (s && not same))) ≡ false
right_number true true None true e t = refl
right_number true false None true e t = refl
right_number false true None true e t = refl
right_number false false None true e t = refl
right_number s f None false e t = absurd (true≢false (sym t))
right_number s f (Some x) same e t = cc

-- the HL that an HL02 names is the first with that number
parent_found : (rule : HlRule) (d : Delims) (hls : List Segment) → length hls < 4294967296 → AreCounted hls → (k : ℕ)
    (parent level : List ℕ) (b : IsBelow rule d hls k parent level) → first_numbered parent (take k hls) ≡ Some b.above
parent_found rule d hls few counted k parent level b =
    one_found (λ g. bytes_eq (hierarchical_id_of g) parent) (take k hls) b.place b.above (to_take k hls b.place b.above b.there b.earlier)
    (own_text (hierarchical_id_of b.above) parent b.named) (λ j g e t.
    one_number hls few counted j b.place g b.above (in_take k hls j g e).1 b.there
    (same_text (hierarchical_id_of g) parent t ∙ sym b.named))

empty_text : (d : Delims) (parent : List ℕ) → parent ≡ [] → is_filled d parent ≡ false
empty_text d parent e = ap (is_filled d) e

parent_right : (rule : HlRule) (d : Delims) (hls : List Segment) → length hls < 4294967296 → AreCounted hls → (k : ℕ) (h : Segment)
    → IsPlaced rule d hls k (parent_id_of h) (level_of h) → is_parent_wrong d (take k hls) h ≡ false
parent_right rule d hls few counted k h (inl r) =
    ap (λ (b : Bool). b && is_none (first_numbered (parent_id_of h) (take k hls))) (empty_text d (parent_id_of h) r.0)
parent_right rule d hls few counted k h (inr b) =
    ap (λ (o : Option Segment). is_filled d (parent_id_of h) && is_none o)
    (parent_found rule d hls few counted k (parent_id_of h) (level_of h) b)
    ∙ ap (λ (c : Bool). c && false) b.filled

level_right : (rule : HlRule) (d : Delims) (hls : List Segment) → length hls < 4294967296 → AreCounted hls → (k : ℕ) (h : Segment)
    → IsPlaced rule d hls k (parent_id_of h) (level_of h) → is_level_wrong rule d (take k hls) h ≡ false
level_right rule d hls few counted k h (inl r) =
    let above = option_map_or (λ p. not (is_listed rule (Some (level_of p)) (level_of h))) (first_numbered (parent_id_of h)
    (take k hls)) false in
    ap (λ (b : Bool). if b then above else not (is_listed rule None (level_of h))) (empty_text d (parent_id_of h) r.0)
    ∙ ap not r.1
level_right rule d hls few counted k h (inr b) =
    let own = not (is_listed rule None (level_of h)) in
    ap (λ (o : Option Segment). if is_filled d (parent_id_of h)
    then option_map_or (λ p. not (is_listed rule (Some (level_of p)) (level_of h))) o false else own)
    (parent_found rule d hls few counted k (parent_id_of h) (level_of h) b)
    ∙ ap (λ (c : Bool). if c then not (is_listed rule (Some (level_of b.above)) (level_of h)) else own) b.filled
    ∙ ap not b.listed

abbrev PassedFrom : {X : Type 0} → (X → Bool) → ℕ → List X → Type 0
PassedFrom {X} test n xs = (j : ℕ) × (x : X) × (slice_get xs j ≡ Some x) × (n ≤ j) × (test x ≡ true)

here_or : {X : Type 0} (test : X → Bool) (x : X) (xs : List X) → list_any test (x ∷ xs) ≡ true
    → (list_any test xs ≡ true → PassedFrom test 0 xs) → (b : Bool) → test x ≡ b → PassedFrom test 0 (x ∷ xs)
here_or test x xs e rest true t = (0, x, refl, omega arith, t)
here_or test x xs e rest false t =
    let r = rest (sym (ap (λ (b : Bool). b || list_any test xs) t) ∙ e) in (suc r.0, r.1, r.2, omega arith, r.4)

-- a test that some of the later ones pass is passed by one of them
some_later : {X : Type 0} (test : X → Bool) (n : ℕ) (xs : List X) → list_any test (drop n xs) ≡ true → PassedFrom test n xs
some_later test zero [] e = absurd (true≢false (sym e))
some_later test (suc n) [] e = absurd (true≢false (sym e))
some_later test (suc n) (x ∷ xs) e = let r = some_later test n xs e in (suc r.0, r.1, r.2, (let k = r.3 in omega (arith, k)), r.4)
some_later test zero (x ∷ xs) e = here_or test x xs e (some_later test zero xs) (test x) refl

first_later : {X : Type 0} (test : X → Bool) (n : ℕ) (xs : List X) (x : X) → slice_get xs n ≡ Some x → test x ≡ true
    → list_any test (drop n xs) ≡ true
first_later test n [] x e t = nothing x e
first_later test zero (y ∷ ys) x e t =
    let same : y ≡ x = cc in ap (λ (b : Bool). b || list_any test ys) (ap test same ∙ t)
first_later test (suc n) (y ∷ ys) x e t = first_later test n ys x e t

-- an HL that announces no children is named by no later one
not_named : (rule : HlRule) (d : Delims) (hls : List Segment) → length hls < 4294967296 → AreCounted hls
    → LooksWholeTo rule d hls (length hls) → (k : ℕ) (h : Segment) → slice_get hls k ≡ Some h → bytes_eq (child_of h) (codes "0") ≡ true
    → is_named d (drop (k + 1) hls) (hierarchical_id_of h) ≡ false
not_named rule d hls few counted looks k h hk none =
    false_from_ne_true (is_named d (drop (k + 1) hls) (hierarchical_id_of h)) (λ e.
    let r = some_later (λ (g : Segment). is_filled d (parent_id_of g) && bytes_eq (parent_id_of g) (hierarchical_id_of h)) (k + 1) hls e in
    let two = and_parts (is_filled d (parent_id_of r.1)) (bytes_eq (parent_id_of r.1) (hierarchical_id_of h)) r.4 in
    by_place r.0 r.1 two.0 (same_text (parent_id_of r.1) (hierarchical_id_of h) two.1)
    (looks r.0 r.1 (slice_get_within hls r.0 r.1 r.2) r.2).placed)
  where
    by_place : (j : ℕ) (g : Segment) → is_filled d (parent_id_of g) ≡ true → parent_id_of g ≡ hierarchical_id_of h
        → IsPlaced rule d hls j (parent_id_of g) (level_of g) → ⊥
    by_place j g filled named (inl r) = true≢false (sym filled ∙ empty_text d (parent_id_of g) r.0)
    by_place j g filled named (inr b) =
        let same : b.place ≡ k = one_number hls few counted b.place k b.above h b.there hk (b.named ∙ named) in
        let at : slice_get hls b.place ≡ slice_get hls k = ap (slice_get hls) same in
        let is : Some b.above ≡ Some h = sym b.there ∙ at ∙ hk in
        let own : b.above ≡ h = cc in
        true≢false (sym none ∙ ap (λ (s : Segment). bytes_eq (child_of s) (codes "0")) (sym own) ∙ b.told)

children_right : (one zero named : Bool) → (one ≡ true → named ≡ true) → (zero ≡ true → named ≡ false)
    → ((one && not named) || (zero && named)) ≡ false
children_right true true true a b = absurd (true≢false (b refl))
children_right true false true a b = refl
children_right true z false a b = absurd (true≢false (sym (a refl)))
children_right false true true a b = absurd (true≢false (b refl))
children_right false false n a b = refl
children_right false true false a b = refl

named_next : (d : Delims) (hls : List Segment) (k : ℕ) (h : Segment) → HasChildren d hls k (hierarchical_id_of h) (child_of h)
    → bytes_eq (child_of h) (codes "1") ≡ true → is_named d (drop (k + 1) hls) (hierarchical_id_of h) ≡ true
named_next d hls k h (inl other) e = absurd (true≢false (sym e ∙ other))
named_next d hls k h (inr n) e =
    first_later (λ (g : Segment). is_filled d (parent_id_of g) && bytes_eq (parent_id_of g) (hierarchical_id_of h))
    (k + 1) hls n.next n.there
    (ap (λ (b : Bool). b && bytes_eq (parent_id_of n.next) (hierarchical_id_of h)) n.filled ∙ own_text (parent_id_of n.next)
    (hierarchical_id_of h) n.named)

pub whole_if_looks : (rule : HlRule) (d : Delims) (hls : List Segment) → length hls < 4294967296
    → LooksWholeTo rule d hls (length hls) → IsHierarchyWhole (Some rule) d hls
whole_if_looks rule d hls few looks k h hk =
    let l : k < length hls = slice_get_within hls k h hk in
    let own : LooksWhole rule d hls k h = looks k h l hk in
    let counted : AreCounted hls = λ j g gj. (looks j g (slice_get_within hls j g gj) gj).number in
    let n : length (take k hls) ≡ k = length-take-le k hls (omega (arith, l)) in
    let count : bytes_eq (hierarchical_id_of h) (decimal (length (take k hls) + 1)) ≡ true =
    own_text (hierarchical_id_of h) (decimal (length (take k hls) + 1)) (own.number ∙ ap (λ (m : ℕ). decimal (m + 1)) (sym n)) in (
      right_number rule.sequential (is_filled d (hierarchical_id_of h)) (first_numbered (hierarchical_id_of h) (take k hls)) _
          (number_new hls few counted k h hk) count,
      parent_right rule d hls few counted k h own.placed,
      level_right rule d hls few counted k h own.placed,
      children_right (bytes_eq (child_of h) (codes "1")) (bytes_eq (child_of h) (codes "0"))
          (is_named d (drop (k + 1) hls) (hierarchical_id_of h)) (named_next d hls k h own.children)
          (not_named rule d hls few counted looks k h hk),
    )

pub looks_more : (rule : HlRule) (d : Delims) (hls : List Segment) (n : ℕ) → LooksWholeTo rule d hls n
    → ((h : Segment) → slice_get hls n ≡ Some h → LooksWhole rule d hls n h) → LooksWholeTo rule d hls (n + 1)
looks_more rule d hls n before here k h l there = elim (cases_eq k n) [
  | inl e ↦ subst (λ (m : ℕ). LooksWhole rule d hls m h) (sym e) (here h (sym (ap (slice_get hls) e) ∙ there))
  | inr e ↦ before k h (omega (arith, l, e)) there
]
