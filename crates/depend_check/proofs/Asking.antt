-- What is reported of dependencies by the uses of their slots is what is reported of them by all placed segments.
use Rattle.std.proofs.Common.{◌≡◌, ◌↔◌, ◌⊎◌, inl, inr, refl, ℕ, zero, suc, true, List, [], ◌∷◌, ◌++◌, sym, ap, subst, ◌∙◌}
use Rattle.std.proofs.Common.{Option, Some, None, true≢false}
use Rattle.elem_rules.proofs.ForAbove.{no_member}
use Rattle.std.specs.Prelude.{IfSome, IsSomeAnd, IsTrue, Bool, false, ◌&&◌, is_some}
use Rattle.std.specs.List.{Contains, list_any, flat_map, filter}
use Rattle.std.specs.Option.{option_map_or}
use Rattle.std.specs.Str.{bytes_eq}
use Rattle.std.proofs.lemmas.List.{append_assoc}
use Rattle.std.proofs.lemmas.List.Elements.{Contains-append_left, Contains-append_right, Contains-append_cases}
use Rattle.std.proofs.lemmas.List.Elements.{Contains-push, Contains-push_cases}
use Rattle.x12_bytes.specs.declared.delims.Delims.{Delims}
use Rattle.hub_kinds.specs.declared.fault.Fault.{Fault}
use Rattle.hub_kinds.specs.Words.{contains_text}
use Rattle.guide_tree.specs.declared.rows.Dependency.{Dependency}
use Rattle.guide_tree.specs.declared.rows.DependencyKind.{DependencyKind}
use Rattle.guide_tree.specs.declared.rows.DependencyKind.TheVariants as kind
use Rattle.guide_tree.specs.Words.{element_at, Trees}
use Rattle.loop_match.specs.PlacedSegments.{PlacedSegment}
use Rattle.depend_check.specs.Dependencies.{is_use, is_trigger, is_dependency_triggered, IsBroken, IsTargetBroken}
use Rattle.depend_check.specs.Found.{faults_of_use, faults_of_slot, faults_of_target}
use Rattle.depend_check.specs.Uses.{is_labelled, HaveSameUses, HaveSameTarget, IsBrokenAmong, IsFound, IsFoundBy}
use Rattle.depend_check.proofs.Lists.{any_with, of_filter, with_any, same_truth}
use Rattle.depend_check.proofs.Members.{from_target, in_target}

first_holds : (a b : Bool) → (a && b) ≡ true → a ≡ true
first_holds true b h = refl
first_holds false b h = cc

turned : (label : List ℕ) (xs ys : List PlacedSegment) → HaveSameUses label xs ys → HaveSameUses label ys xs
turned label xs ys same p u = ((same p u).1, (same p u).0)

used_too : (label : List ℕ) (xs ys : List PlacedSegment) → HaveSameUses label xs ys → list_any (is_use label) xs ≡ true
    → list_any (is_use label) ys ≡ true
used_too label xs ys same h = let p = with_any (is_use label) xs h in any_with (is_use label) ys p.0 ((same p.0 p.2).0 p.1) p.2

broken_too : (ts : Trees) (d : Delims) (end : ℕ) (xs ys : List PlacedSegment) (label : List ℕ) (k : DependencyKind) (e : ℕ) (f : Fault)
    → HaveSameUses label xs ys → IsTargetBroken ts d end xs label k e f → IsTargetBroken ts d end ys label k e f
broken_too ts d end xs ys label kind.Need zero f same (seat, there, none, is) = (
  seat,
  there,
  same_truth (list_any (is_use label) ys) (list_any (is_use label) xs) (used_too label ys xs (turned label xs ys same))
      (used_too label xs ys same) ∙ none,
  is,
)
broken_too ts d end xs ys label kind.Ban zero f same (p, c, u, is) = (p, (same p u).0 c, u, is)
broken_too ts d end xs ys label kind.Need (suc e) f same (p, r, is) =
    (p, record { listed = (same p r.used).0 r.listed; used = r.used; has = r.has }, is)
broken_too ts d end xs ys label kind.Ban (suc e) f same (p, r, is) =
    (p, record { listed = (same p r.used).0 r.listed; used = r.used; has = r.has }, is)

-- what is added by the uses of a target
pub broken_added : (ts : Trees) (d : Delims) (end : ℕ) (uses all : List PlacedSegment) (label : List ℕ) (k : DependencyKind) (e : ℕ)
    (old between new : List Fault) → HaveSameUses label uses all → between ≡ old ++ faults_of_slot ts end uses label k e
    → new ≡ between ++ flat_map (faults_of_use d label k e) uses
    → (f : Fault) → Contains new f ↔ (Contains old f ⊎ IsTargetBroken ts d end all label k e f)
broken_added ts d end uses all label k e old between new same first second f =
    let found = faults_of_target ts d end uses label k e in
    let is : new ≡ old ++ found =
    second ∙ ap (λ l. l ++ flat_map (faults_of_use d label k e) uses) first
    ∙ append_assoc old (faults_of_slot ts end uses label k e) (flat_map (faults_of_use d label k e) uses) in (
      λ c. elim (Contains-append_cases old found f (subst (λ (l : List Fault). Contains l f) is c)) [
        | inl w ↦ inl w
        | inr w ↦ inr (broken_too ts d end uses all label k e f same (from_target ts d end uses label k e f w))
      ],
      λ h. subst (λ (l : List Fault). Contains l f) (sym is) (elim h [
        | inl w ↦ Contains-append_left old found f w
        | inr w ↦ Contains-append_right old found f
            (in_target ts d end uses label k e f (broken_too ts d end all uses label k e f (turned label uses all same) w))
      ]),
    )

-- one more dependency: its own faults, or those of one that asks the same
among_more : (ts : Trees) (d : Delims) (end : ℕ) (ps : List PlacedSegment) (ds : List Dependency) (x : Dependency) (f : Fault)
    → IsBrokenAmong ts d end ps (ds ++ x ∷ []) f → IsBrokenAmong ts d end ps ds f ⊎ IsBroken ts d end ps x f
among_more ts d end ps ds x f (y, c, b) = elim (Contains-push_cases ds x y c) [
  | inl e ↦ inl (y, e, b)
  | inr e ↦ inr (subst (λ (z : Dependency). IsBroken ts d end ps z f) (sym e) b)
]

more_among : (ts : Trees) (d : Delims) (end : ℕ) (ps : List PlacedSegment) (ds : List Dependency) (x : Dependency) (f : Fault)
    → IsBrokenAmong ts d end ps ds f ⊎ IsBroken ts d end ps x f → IsBrokenAmong ts d end ps (ds ++ x ∷ []) f
more_among ts d end ps ds x f (inl r) = (r.0, Contains-append_left ds (x ∷ []) r.0 r.1, r.2)
more_among ts d end ps ds x f (inr b) = (x, Contains-push ds x, b)

pub told_more : (ts : Trees) (d : Delims) (end : ℕ) (ps : List PlacedSegment) (ds all : List Dependency) (x : Dependency)
    (old new : List Fault) → all ≡ ds ++ x ∷ [] → ((f : Fault) → Contains old f ↔ IsBrokenAmong ts d end ps ds f)
    → ((f : Fault) → Contains new f ↔ (Contains old f ⊎ IsBroken ts d end ps x f))
    → (f : Fault) → Contains new f ↔ IsBrokenAmong ts d end ps all f
told_more ts d end ps ds all x old new is told added f =
    subst (λ (l : List Dependency). Contains new f ↔ IsBrokenAmong ts d end ps l f) (sym is) (
      λ c. more_among ts d end ps ds x f (elim ((added f).0 c) [ inl w ↦ inl ((told f).0 w) | inr w ↦ inr w ]),
      λ h. (added f).1 (elim (among_more ts d end ps ds x f h) [ inl w ↦ inl ((told f).1 w) | inr w ↦ inr w ]),
    )

same_broken : (ts : Trees) (d : Delims) (end : ℕ) (ps : List PlacedSegment) (x y : Dependency) (f : Fault) → HaveSameTarget x y
    → IsBroken ts d end ps y f → IsBroken ts d end ps x f
same_broken ts d end ps x y f same b =
    subst (λ (l : List ℕ). IsTargetBroken ts d end ps l x.kind x.element f) (sym same.target)
    (subst (λ (k : DependencyKind). IsTargetBroken ts d end ps y.target k x.element f) (sym same.kind)
    (subst (λ (e : ℕ). IsTargetBroken ts d end ps y.target y.kind e f) (sym same.element) b))

pub told_again : (ts : Trees) (d : Delims) (end : ℕ) (ps : List PlacedSegment) (ds all : List Dependency) (e x : Dependency)
    (old : List Fault) → all ≡ ds ++ x ∷ [] → Contains ds e → HaveSameTarget e x
    → ((f : Fault) → Contains old f ↔ IsBrokenAmong ts d end ps ds f) → (f : Fault) → Contains old f ↔ IsBrokenAmong ts d end ps all f
told_again ts d end ps ds all e x old is c same told =
    told_more ts d end ps ds all x old old is told
    (λ f. (λ w. inl w, λ h. elim h [ inl w ↦ w | inr b ↦ (told f).1 (e, c, same_broken ts d end ps e x f same b) ]))

pub both_of : {A : Type 0} (P Q : A → Type 0) (o : Option A) → IfSome o P → IsSomeAnd o Q → (x : A) × P x × Q x
both_of P Q None p q = absurd q
both_of P Q (Some x) p q = (x, p, q)

-- dependencies that are triggered, and broken, are found
pub among_found : (ts : Trees) (d : Delims) (end : ℕ) (ps : List PlacedSegment) (depends asked : List Dependency) (f : Fault)
    → ((x : Dependency) → Contains asked x ↔ (Contains depends x × IsTrue (is_dependency_triggered x ps)))
    → IsBrokenAmong ts d end ps asked f ↔ IsFound ts d end ps depends f
among_found ts d end ps depends asked f same = (
  λ r. let w = (same r.0).0 r.1 in record { dependency = r.0; listed = w.0; triggered = w.1; broken = r.2 },
  λ r. (r.dependency, (same r.dependency).1 (r.listed, r.triggered), r.broken),
)

triggered_too : (x : Dependency) (xs ys : List PlacedSegment) → HaveSameUses x.slot xs ys → is_dependency_triggered x xs ≡ true
    → is_dependency_triggered x ys ≡ true
triggered_too x xs ys same h =
    let p = with_any (is_trigger x) xs h in
    any_with (is_trigger x) ys p.0
    ((same p.0 (first_holds (is_use x.slot p.0) (contains_text x.codes (element_at p.0.segment x.at)) p.2)).0 p.1)
    p.2

-- other segments than uses, and the order of these, are all the same
found_too : (ts : Trees) (d : Delims) (end : ℕ) (xs ys : List PlacedSegment) (depends : List Dependency) (f : Fault)
    → ((label : List ℕ) → HaveSameUses label xs ys) → IsFound ts d end xs depends f → IsFound ts d end ys depends f
found_too ts d end xs ys depends f same r =
    let x = r.dependency in
    record {
      dependency = x;
      listed = r.listed;
      triggered = triggered_too x xs ys (same x.slot) r.triggered;
      broken = broken_too ts d end xs ys x.target x.kind x.element f (same x.target) r.broken;
    }

pub found_of : (ts : Trees) (d : Delims) (end : ℕ) (xs ys : List PlacedSegment) (depends : List Dependency) (f : Fault)
    → ((label : List ℕ) → HaveSameUses label xs ys) → IsFound ts d end xs depends f ↔ IsFound ts d end ys depends f
found_of ts d end xs ys depends f same = (
  found_too ts d end xs ys depends f same,
  found_too ts d end ys xs depends f (λ label. turned label xs ys (same label)),
)

-- a use has a label
label_there : (label : List ℕ) (own : Option (List ℕ)) → option_map_or (λ l. bytes_eq l label) own false ≡ true → is_some own ≡ true
label_there label None h = cc
label_there label (Some l) h = refl

-- what has a label, in any order, has the uses
pub labelled_uses : (all kept : List PlacedSegment) → ((p : PlacedSegment) → Contains kept p ↔ Contains (filter is_labelled all) p)
    → (label : List ℕ) → HaveSameUses label kept all
labelled_uses all kept same label p used =
    let filtered = of_filter is_labelled all p in (
      λ c. (filtered.0 ((same p).0 c)).0,
      λ c. (same p).1 (filtered.1 (c, label_there label p.slot.label used)),
    )

-- one more dependency
found_before : (ts : Trees) (d : Delims) (end : ℕ) (ps : List PlacedSegment) (ds : List Dependency) (x : Dependency) (f : Fault)
    → IsFound ts d end ps (ds ++ x ∷ []) f → IsFound ts d end ps ds f ⊎ IsFoundBy ts d end ps x f
found_before ts d end ps ds x f r = elim (Contains-push_cases ds x r.dependency r.listed) [
  | inl e ↦ inl (record { dependency = r.dependency; listed = e; triggered = r.triggered; broken = r.broken })
  | inr e ↦ inr (subst (λ (z : Dependency). IsFoundBy ts d end ps z f) (sym e) (r.triggered, r.broken))
]

found_behind : (ts : Trees) (d : Delims) (end : ℕ) (ps : List PlacedSegment) (ds : List Dependency) (x : Dependency) (f : Fault)
    → IsFound ts d end ps ds f ⊎ IsFoundBy ts d end ps x f → IsFound ts d end ps (ds ++ x ∷ []) f
found_behind ts d end ps ds x f (inl r) = record {
  dependency = r.dependency;
  listed = Contains-append_left ds (x ∷ []) r.dependency r.listed;
  triggered = r.triggered;
  broken = r.broken;
}
found_behind ts d end ps ds x f (inr b) =
    record { dependency = x; listed = Contains-push ds x; triggered = b.0; broken = b.1 }

pub found_more : (ts : Trees) (d : Delims) (end : ℕ) (ps : List PlacedSegment) (ds all : List Dependency) (x : Dependency)
    (old new : List Fault) → all ≡ ds ++ x ∷ [] → ((f : Fault) → Contains old f ↔ IsFound ts d end ps ds f)
    → ((f : Fault) → Contains new f ↔ (Contains old f ⊎ IsFoundBy ts d end ps x f))
    → (f : Fault) → Contains new f ↔ IsFound ts d end ps all f
found_more ts d end ps ds all x old new is told added f =
    subst (λ (l : List Dependency). Contains new f ↔ IsFound ts d end ps l f) (sym is) (
      λ c. found_behind ts d end ps ds x f (elim ((added f).0 c) [ inl w ↦ inl ((told f).0 w) | inr w ↦ inr w ]),
      λ h. (added f).1 (elim (found_before ts d end ps ds x f h) [ inl w ↦ inl ((told f).1 w) | inr w ↦ inr w ]),
    )

pub found_nothing : (ts : Trees) (d : Delims) (end : ℕ) (ps : List PlacedSegment) (f : Fault) → Contains [] f ↔ IsFound ts d end ps [] f
found_nothing ts d end ps f = (λ c. absurd (no_member f c), λ r. absurd (no_member r.dependency r.listed))

pub same_uses : (label : List ℕ) (ps : List PlacedSegment) → HaveSameUses label ps ps
same_uses label ps p used = (λ c. c, λ c. c)

-- a dependency that isn't triggered adds nothing
pub not_found_by : (ts : Trees) (d : Delims) (end : ℕ) (ps : List PlacedSegment) (x : Dependency) (old : List Fault)
    → is_dependency_triggered x ps ≡ false → (f : Fault) → Contains old f ↔ (Contains old f ⊎ IsFoundBy ts d end ps x f)
not_found_by ts d end ps x old none f =
    (λ c. inl c, λ h. elim h [ inl c ↦ c | inr b ↦ absurd (true≢false (sym b.0 ∙ none)) ])

-- one that is adds what breaks it
pub found_by_broken : (ts : Trees) (d : Delims) (end : ℕ) (ps : List PlacedSegment) (x : Dependency) (old new : List Fault)
    → is_dependency_triggered x ps ≡ true → ((f : Fault) → Contains new f ↔ (Contains old f ⊎ IsBroken ts d end ps x f))
    → (f : Fault) → Contains new f ↔ (Contains old f ⊎ IsFoundBy ts d end ps x f)
found_by_broken ts d end ps x old new is added f = (
  λ c. elim ((added f).0 c) [ inl w ↦ inl w | inr b ↦ inr (is, b) ],
  λ h. (added f).1 (elim h [ inl w ↦ inl w | inr b ↦ inr b.1 ]),
)
