-- What the rules over the whole set say of the segments that were kept, they say of all.
use Rattle.std.proofs.Common.{◌≡◌, ◌==◌, ◌&&◌, ◌||◌, ◌++◌, ℕ, zero, suc, Bool, true, false, List, [], ◌∷◌, map, Option, Some, None}
use Rattle.std.proofs.Common.{refl, sym, ap, subst, ◌∙◌, arith, true≢false, cond, codes, if◌then◌else◌, not}
use Rattle.std.specs.Prelude.{is_some}
use Rattle.std.specs.Str.{bytes_eq}
use Rattle.std.specs.List.{Contains, list_any, list_all, filter}
use Rattle.std.specs.Option.{option_map_or}
use mathlib.Core.List.{map-map}
use Rattle.std.proofs.lemmas.Bool.{and_parts, not-true, ne_eqb, false_from_ne_true}
use Rattle.std.proofs.lemmas.List.{map-append}
use Rattle.std.proofs.lemmas.List.Elements.{All-contains, filter-append}
use Rattle.std.proofs.lemmas.List.Folds.{list_any_at}
use Rattle.std.proofs.lemmas.List.Sums.{AllPass-from_list_all}
use Rattle.std.proofs.lemmas.Map.Views.{any-filter_same}
use Rattle.std.proofs.lemmas.Slice.Eq.{bytes_eq-Decides}
use Rattle.x12_bytes.specs.declared.delims.Delims.{Delims}
use Rattle.x12_segs.specs.Words.{SegValue, elements_of}
use Rattle.guide_tree.specs.declared.rows.Dependency.{Dependency}
use Rattle.guide_tree.specs.declared.rows.DependencyKind.{DependencyKind}
use Rattle.guide_tree.specs.declared.rows.DependencyKind.TheVariants as kind
use Rattle.guide_tree.specs.declared.slot.Slot.{Slot}
use Rattle.guide_tree.specs.Words.{GuideTree, Given, Segment, segment_id}
use Rattle.hl_check.specs.Hierarchy.{is_hl, hl_segments, IsHierarchyWhole}
use Rattle.hl_check.specs.Names.{Names, names_of}
use Rattle.depend_check.specs.Standing.{stands_at, fills, triggers}
use Rattle.depend_check.specs.Kept.{IsTargetKept, AreDependenciesKept}
use Rattle.set_walk.specs.declared.kept.SlottedSeg.{SlottedSeg}
use Rattle.set_walk.specs.declared.kept.Kept.{Kept}
use Rattle.set_walk.specs.Kept.{Slotted, slotted_view, segs_in, given_by, segment_in, is_hierarchical, is_labelled, AreNamesKept, IsKept}
use Rattle.set_walk.specs.Depends.{lacks, has, target_by, kept_by, some_in}

kept_view : {X Y : Type 0} (b : Bool) (v : X → Y) (x : X) (xs : List X) (ys : List Y) → map v xs ≡ ys
    → map v (cond b (x ∷ xs) xs) ≡ cond b (v x ∷ ys) ys
kept_view true v x xs ys e = ap (λ l. v x ∷ l) e
kept_view false v x xs ys e = e

filter_view : {X Y : Type 0} (test : Y → Bool) (v : X → Y) (xs : List X) → map v (filter (λ x. test (v x)) xs) ≡ filter test (map v xs)
filter_view test v [] = refl
filter_view test v (x ∷ xs) =
    kept_view (test (v x)) v x (filter (λ y. test (v y)) xs) (filter test (map v xs)) (filter_view test v xs)

any_view : {X Y : Type 0} (test : Y → Bool) (v : X → Y) (xs : List X) → list_any (λ x. test (v x)) xs ≡ list_any test (map v xs)
any_view test v [] = refl
any_view test v (x ∷ xs) = ap (λ (b : Bool). test (v x) || b) (any_view test v xs)

-- the HLs that were kept are all
pub hierarchy_of : (g : GuideTree) (d : Delims) (k : Kept) (xs : List Slotted) → IsKept k xs
    → IsHierarchyWhole g.hl d (map segment_in k.hls.items) → IsHierarchyWhole g.hl d (hl_segments (map elements_of (segs_in xs)))
hierarchy_of g d k xs kept whole =
    let v : Slotted → Segment = λ y. elements_of y.0 in
    subst (IsHierarchyWhole g.hl d)
    (sym (map-map v slotted_view k.hls.items) ∙ ap (map v) kept.hls ∙ filter_view is_hl v xs
    ∙ ap hl_segments (sym (map-map elements_of (λ (y : Slotted). y.0) xs))) whole

abbrev some_given : List Given → (Given → Bool) → Bool
some_given xs test = list_any test xs

-- a test that holds of segments with labelled slots alone holds of some that was kept where it holds of some
some_kept : (items : List SlottedSeg) (xs : List Slotted) → map slotted_view items ≡ filter is_labelled xs → (test : Given → Bool)
    → ((x : Given) → test x ≡ true → is_some x.1.label ≡ true) → some_in items test ≡ some_given (map given_by xs) test
some_kept items xs e test imp =
    any_view (λ (y : Slotted). test (given_by y)) slotted_view items
    ∙ ap (list_any (λ (y : Slotted). test (given_by y))) e
    ∙ any-filter_same (λ (y : Slotted). test (given_by y)) is_labelled true (λ y h. imp (given_by y) h) xs
    ∙ any_view test given_by xs

some_label : (o : Option (List ℕ)) (label : List ℕ) → option_map_or (λ l. bytes_eq l label) o false ≡ true → is_some o ≡ true
some_label None label h = absurd (true≢false (sym h))
some_label (Some l) label h = refl

stands_labelled : (label : List ℕ) (x : Given) → stands_at label x ≡ true → is_some x.1.label ≡ true
stands_labelled label x h = some_label x.1.label label h

abbrev AgreeLabelled : ((Given → Bool) → Bool) → ((Given → Bool) → Bool) → Type 0
AgreeLabelled s t = (test : Given → Bool) → ((x : Given) → test x ≡ true → is_some x.1.label ≡ true) → s test ≡ t test

same_target : (s t : (Given → Bool) → Bool) (d : Delims) (label : List ℕ) (k : DependencyKind) (e : ℕ) → AgreeLabelled s t
    → target_by s d label k e ≡ target_by t d label k e
same_target s t d label kind.Need e same =
    ap (λ (b : Bool). if e == 0 then b else not (s (lacks d label e))) (same (stands_at label) (stands_labelled label))
    ∙ ap (λ (b : Bool). if e == 0 then t (stands_at label) else not b)
    (same (lacks d label e) (λ x h. stands_labelled label x (and_parts (stands_at label x) (not (fills d e x)) h).0))
same_target s t d label kind.Ban e same =
    ap (λ (b : Bool). if e == 0 then not b else not (s (has d label e))) (same (stands_at label) (stands_labelled label))
    ∙ ap (λ (b : Bool). if e == 0 then not (t (stands_at label)) else not b)
    (same (has d label e) (λ x h. stands_labelled label x (and_parts (stands_at label x) (fills d e x) h).0))

same_kept : (s t : (Given → Bool) → Bool) (d : Delims) (y : Dependency) → AgreeLabelled s t → kept_by s d y ≡ kept_by t d y
same_kept s t d y same =
    ap (λ (b : Bool). not b || target_by s d y.target y.kind y.element)
    (same (triggers y) (λ x h. stands_labelled y.slot x (and_parts (stands_at y.slot x) _ h).0))
    ∙ ap (λ (b : Bool). not (t (triggers y)) || b) (same_target s t d y.target y.kind y.element same)

any_with : {X : Type 0} (test : X → Bool) (xs : List X) (x : X) → Contains xs x → test x ≡ true → list_any test xs ≡ true
any_with test xs x c h = list_any_at test xs c.0 x c.1 (ap test c.2 ∙ h)

later : (e : ℕ) → (suc e == 0) ≡ false
later e = ne_eqb (suc e) 0 (λ z. absurd (omega (arith, z)))

none_passes : {X : Type 0} (test : X → Bool) (xs : List X) (x : X) → not (list_any test xs) ≡ true → Contains xs x → test x ≡ false
none_passes test xs x h c = false_from_ne_true (test x) (λ k. true≢false (sym (any_with test xs x c k) ∙ not-true (list_any test xs) h))

then_not : (a b : Bool) → (a && b) ≡ false → a ≡ true → b ≡ false
then_not true b h e = h
then_not false b h e = absurd (true≢false (sym e))

not_not : (b : Bool) → not b ≡ false → b ≡ true
not_not true h = refl
not_not false h = absurd (true≢false h)

target_kept : (d : Delims) (xs : List Given) (label : List ℕ) (k : DependencyKind) (e : ℕ)
    → target_by (some_given xs) d label k e ≡ true → IsTargetKept d xs label k e
target_kept d xs label kind.Need zero h = h
target_kept d xs label kind.Ban zero h = not-true (list_any (stands_at label) xs) h
target_kept d xs label kind.Need (suc e) h = λ x c u.
    let told : not (list_any (lacks d label (suc e)) xs) ≡ true =
    sym (ap (λ (b : Bool). if b then list_any (stands_at label) xs else not (list_any (lacks d label (suc e)) xs)) (later e)) ∙ h in
    not_not (fills d (suc e) x)
    (then_not (stands_at label x) (not (fills d (suc e) x)) (none_passes (lacks d label (suc e)) xs x told c) u)
target_kept d xs label kind.Ban (suc e) h = λ x c u.
    let told : not (list_any (has d label (suc e)) xs) ≡ true =
    sym (ap (λ (b : Bool). if b then not (list_any (stands_at label) xs) else not (list_any (has d label (suc e)) xs)) (later e)) ∙ h in
    then_not (stands_at label x) (fills d (suc e) x) (none_passes (has d label (suc e)) xs x told c) u

when_triggered : (a b : Bool) → (not a || b) ≡ true → a ≡ true → b ≡ true
when_triggered true b h e = h
when_triggered false b h e = absurd (true≢false (sym e))

-- the dependencies that hold of the segments that were kept hold of all
pub dependencies_of : (g : GuideTree) (d : Delims) (k : Kept) (xs : List Slotted) → IsKept k xs
    → list_all (kept_by (some_in k.labelled.items) d) g.depends ≡ true → AreDependenciesKept g.depends d (map given_by xs)
dependencies_of g d k xs kept all y c triggered =
    let own : kept_by (some_in k.labelled.items) d y ≡ true =
    All-contains (λ (z : Dependency). kept_by (some_in k.labelled.items) d z ≡ true) g.depends y
    (AllPass-from_list_all (kept_by (some_in k.labelled.items) d) g.depends all) c in
    let whole : kept_by (some_given (map given_by xs)) d y ≡ true =
    sym (same_kept (some_in k.labelled.items) (some_given (map given_by xs)) d y (some_kept k.labelled.items xs kept.labelled)) ∙ own in
    target_kept d (map given_by xs) y.target y.kind y.element
    (when_triggered (list_any (triggers y) (map given_by xs)) _ whole triggered)

-- what is kept, with one more segment
one_if : {X : Type 0} (test : X → Bool) (x : X) (b : Bool) → test x ≡ b → filter test (x ∷ []) ≡ (if b then x ∷ [] else [])
one_if test x b e = ap (λ (c : Bool). cond c (x ∷ []) []) e

more_filtered : {X Y : Type 0} (v : X → Y) (test : Y → Bool) (old new : List X) (xs : List Y) (y : Y) (b : Bool) → test y ≡ b
    → map v old ≡ filter test xs → map v new ≡ map v old ++ (if b then y ∷ [] else []) → map v new ≡ filter test (xs ++ y ∷ [])
more_filtered v test old new xs y b e was more =
    more ∙ ap (λ (l : List _). l ++ (if b then y ∷ [] else [])) was
    ∙ ap (λ (l : List _). filter test xs ++ l) (sym (one_if test y b e)) ∙ sym (filter-append test xs (y ∷ []))

pub same_id : (slot : Slot) (seg : SegValue) → bytes_eq slot.id (segment_id (elements_of seg)) ≡ true
    → is_hl (elements_of seg) ≡ bytes_eq slot.id (codes "HL")
same_id slot seg e =
    ap (λ (l : List ℕ). bytes_eq l (codes "HL")) (sym ((bytes_eq-Decides slot.id (segment_id (elements_of seg))).0 e))

abbrev named : Slotted → Names
named x = names_of (elements_of x.0)

named_hls : (hls : List SlottedSeg) → map names_of (map segment_in hls) ≡ map named (map slotted_view hls)
named_hls [] = refl
named_hls (x ∷ xs) = ap (λ (l : List Names). names_of (segment_in x) ∷ l) (named_hls xs)

named_if : (b : Bool) (x : Slotted) → map named (if b then x ∷ [] else []) ≡ (if b then named x ∷ [] else [])
named_if true x = refl
named_if false x = refl

names_more : (old new : Kept) (seg : SegValue) (slot : Slot) (hl : Bool)
    → map slotted_view new.hls.items ≡ map slotted_view old.hls.items ++ (if hl then (seg, slot) ∷ [] else [])
    → new.names.items ≡ old.names.items ++ (if hl then names_of (elements_of seg) ∷ [] else [])
    → AreNamesKept old → AreNamesKept new
names_more old new seg slot hl hls names was =
    let x : Slotted = (seg, slot) in
    let own : List Slotted = map slotted_view old.hls.items in
    names ∙ ap (λ (l : List Names). l ++ (if hl then names_of (elements_of seg) ∷ [] else [])) (was ∙ named_hls old.hls.items)
    ∙ ap (λ (l : List Names). map named own ++ l) (sym (named_if hl x))
    ∙ sym (map-append named own (if hl then x ∷ [] else []))
    ∙ sym (ap (map named) hls) ∙ sym (named_hls new.hls.items)

pub kept_more : (old new : Kept) (xs : List Slotted) (seg : SegValue) (slot : Slot) (hl label : Bool)
    → bytes_eq slot.id (segment_id (elements_of seg)) ≡ true → hl ≡ bytes_eq slot.id (codes "HL") → label ≡ is_some slot.label
    → map slotted_view new.hls.items ≡ map slotted_view old.hls.items ++ (if hl then (seg, slot) ∷ [] else [])
    → new.names.items ≡ old.names.items ++ (if hl then names_of (elements_of seg) ∷ [] else [])
    → map slotted_view new.labelled.items ≡ map slotted_view old.labelled.items ++ (if label then (seg, slot) ∷ [] else [])
    → IsKept old xs → IsKept new (xs ++ (seg, slot) ∷ [])
kept_more old new xs seg slot hl label id is_one has_one hls names labelled kept = record {
  hls = more_filtered slotted_view is_hierarchical old.hls.items new.hls.items xs (seg, slot) hl (same_id slot seg id ∙ sym is_one)
      kept.hls hls;
  names = names_more old new seg slot hl hls names kept.names;
  labelled = more_filtered slotted_view is_labelled old.labelled.items new.labelled.items xs (seg, slot) label (sym has_one)
      kept.labelled labelled;
}
