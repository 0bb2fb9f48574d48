-- No fault of a dependency is reported of a body exactly where the segments that have places keep the dependencies.
use Rattle.std.proofs.Common.{◌≡◌, ◌↔◌, inl, ℕ, zero, suc, Bool, true, false, ◌||◌, ◌==◌, List, [], map}
use Rattle.std.proofs.Common.{refl, sym, ap, subst, ◌∙◌, true≢false, Option, Some, None, if◌then◌else◌}
use Rattle.std.specs.Prelude.{IsTrue, option_map}
use Rattle.std.specs.List.{Contains, list_any, list_all}
use Rattle.std.specs.Option.{option_map_or}
use Rattle.std.proofs.lemmas.Bool.{and_parts, false_from_ne_true}
use Rattle.std.proofs.lemmas.List.Elements.{All-contains}
use Rattle.std.proofs.lemmas.List.Folds.{Any-from_list_any}
use Rattle.std.proofs.lemmas.List.Sums.{AllPass-from_list_all}
use Rattle.x12_bytes.specs.declared.delims.Delims.{Delims}
use Rattle.hub_kinds.specs.declared.codes.SegmentCode.TheVariants as ik304
use Rattle.hub_kinds.specs.declared.codes.ElementCode.TheVariants as ik403
use Rattle.hub_kinds.specs.declared.fault.Fault.{Fault}
use Rattle.guide_tree.specs.declared.fault.GuideFault.TheVariants as refused
use Rattle.guide_tree.specs.declared.rows.Dependency.{Dependency}
use Rattle.guide_tree.specs.declared.rows.DependencyKind.{DependencyKind}
use Rattle.guide_tree.specs.declared.rows.DependencyKind.TheVariants as kind
use Rattle.guide_tree.specs.declared.slot.Slot.{Slot}
use Rattle.guide_tree.specs.Words.{Tree, Trees, segment, loop, no_trees, tree, GuideTree, or_else, find_slot_in, has_label, has_row}
use Rattle.guide_tree.specs.Words.{labelled, is_dependency_of, is_hierarchy_of, are_names_known, IsWellFormed, Given, Place, slot_given}
use Rattle.guide_tree.specs.Words.{Segment, element_at}
use Rattle.loop_match.specs.PlacedSegments.{PlacedSegment, placed_segments, as_given}
use Rattle.loop_match.proofs.ForAbove.{placed_given}
use Rattle.depend_check.specs.Dependencies.{is_use, is_trigger, Seat, seat_in, seat_among}
use Rattle.depend_check.specs.Dependencies.{seat_of, unused_fault, use_fault, element_fault, IsTargetBroken, IsDependencyFault}
use Rattle.depend_check.specs.Kept.{IsTargetKept, AreDependenciesKept}
use Rattle.depend_check.specs.Standing.{stands_at, fills, triggers}
use Rattle.depend_check.proofs.Lists.{any_view, any_with, from_map, in_map}

abbrev slot_of : Option Seat → Option Slot
slot_of o = option_map (λ (x : Seat). x.slot) o

slot_if : (b : Bool) (o : List ℕ) (s : Slot)
    → slot_of (if b then Some (record { slot = s; loop_id = o }) else None) ≡ (if b then Some s else None)
slot_if true o s = refl
slot_if false o s = refl

slot_else : (a b : Option Seat) → slot_of (or_else a b) ≡ or_else (slot_of a) (slot_of b)
slot_else None b = refl
slot_else (Some x) b = refl

-- a seat's slot is the one that the label names
mutual
  same_in : (o label : List ℕ) (t : Tree) → slot_of (seat_in o label t) ≡ find_slot_in (has_label label) t
  same_in o label (segment s) = slot_if (has_label label s) o s
  same_in o label (loop k ts) = same_among k.id label ts

  same_among : (o label : List ℕ) (ts : Trees) → slot_of (seat_among o label ts) ≡ labelled ts label
  same_among o label no_trees = refl
  same_among o label (tree t ts) =
      slot_else (seat_in o label t) (seat_among o label ts)
      ∙ ap (λ (a : Option Slot). or_else a (slot_of (seat_among o label ts))) (same_in o label t)
      ∙ ap (or_else (find_slot_in (has_label label) t)) (same_among o label ts)

true_unless : (b : Bool) → (b ≡ false → ⊥) → b ≡ true
true_unless true h = refl
true_unless false h = absurd (h refl)

some_of : (test : Slot → Bool) (o : Option Slot) → option_map_or test o false ≡ true → (s : Slot) × (o ≡ Some s)
some_of test None h = cc
some_of test (Some s) h = (s, refl)

abbrev Seated : Trees → List ℕ → Type 0
Seated ts label = (seat : Seat) × (seat_of ts label ≡ Some seat)

seated_by : (ts : Trees) (label : List ℕ) (o : Option Seat) (s : Slot) → seat_of ts label ≡ o → slot_of o ≡ Some s → Seated ts label
seated_by ts label None s e h = let k : None ≡ Some s = h in cc
seated_by ts label (Some x) s e h = (x, e)

-- in an accepted guide each dependency's target has a seat
seated : (g : GuideTree) (d : Dependency) → IsWellFormed g → Contains g.depends d → Seated g.nodes d.target
seated g d well c =
    let known : are_names_known g ≡ true = true_unless (are_names_known g) (λ h. well (refused.BadCondition 0) (inl (refl, h))) in
    let each = AllPass-from_list_all (is_dependency_of g.nodes) g.depends
    (and_parts (list_all (is_dependency_of g.nodes) g.depends) (is_hierarchy_of g.nodes g.hl) known).0 in
    let own : is_dependency_of g.nodes d ≡ true = All-contains (λ (y : Dependency). is_dependency_of g.nodes y ≡ true) g.depends d each c in
    let target = some_of (λ s. (d.element == 0) || has_row s d.element) (labelled g.nodes d.target)
    (and_parts (option_map_or (λ s. has_row s d.at) (labelled g.nodes d.slot) false) _ own).1 in
    seated_by g.nodes d.target (seat_of g.nodes d.target) target.0 refl (same_among [] d.target g.nodes ∙ target.1)

used_given : (label : List ℕ) (ps : List PlacedSegment) → list_any (is_use label) ps ≡ list_any (stands_at label) (map as_given ps)
used_given label ps = any_view (stands_at label) as_given ps

-- where nothing is reported of a target, it is kept
target_kept : (ts : Trees) (d : Delims) (end : ℕ) (ps : List PlacedSegment) (label : List ℕ) (k : DependencyKind) (e : ℕ)
    → Seated ts label → ((f : Fault) → IsTargetBroken ts d end ps label k e f → ⊥) → IsTargetKept d (map as_given ps) label k e
target_kept ts d end ps label kind.Need zero seat none =
    true_unless (list_any (stands_at label) (map as_given ps))
    (λ h. none (unused_fault end seat.0) (seat.0, seat.1, used_given label ps ∙ h, refl))
target_kept ts d end ps label kind.Ban zero seat none =
    false_from_ne_true (list_any (stands_at label) (map as_given ps))
    (λ h. let a = Any-from_list_any (is_use label) ps (used_given label ps ∙ h) in
    none (use_fault a.1 ik304.DependentNotUsedPresent None) (a.1, (a.0, a.2, a.3), a.4, refl))
target_kept ts d end ps label kind.Need (suc e) seat none = λ x c u.
    let r = from_map as_given ps x c in
    true_unless (fills d (suc e) x) (λ h. none (element_fault r.0 (suc e) ik403.DependentMissing []) (
      r.0,
      record {
        listed = r.1;
        used = subst (λ (y : Given). IsTrue (stands_at label y)) (sym r.2) u;
        has = subst (λ (y : Given). fills d (suc e) y ≡ false) (sym r.2) h;
      },
      refl,
    ))
target_kept ts d end ps label kind.Ban (suc e) seat none = λ x c u.
    let r = from_map as_given ps x c in
    false_from_ne_true (fills d (suc e) x)
    (λ h. none (element_fault r.0 (suc e) ik403.DependentNotUsedPresent (element_at r.0.segment (suc e))) (
      r.0,
      record {
        listed = r.1;
        used = subst (λ (y : Given). IsTrue (stands_at label y)) (sym r.2) u;
        has = subst (λ (y : Given). fills d (suc e) y ≡ true) (sym r.2) h;
      },
      refl,
    ))

-- and back
nothing_told : (ts : Trees) (d : Delims) (end : ℕ) (ps : List PlacedSegment) (label : List ℕ) (k : DependencyKind) (e : ℕ) (f : Fault)
    → IsTargetKept d (map as_given ps) label k e → IsTargetBroken ts d end ps label k e f → ⊥
nothing_told ts d end ps label kind.Need zero f kept r = true≢false (sym kept ∙ sym (used_given label ps) ∙ r.2)
nothing_told ts d end ps label kind.Ban zero f kept (p, c, u, is) =
    true≢false (sym (any_with (is_use label) ps p c u) ∙ used_given label ps ∙ kept)
nothing_told ts d end ps label kind.Need (suc e) f kept (p, r, is) =
    true≢false (sym (kept (as_given p) (in_map as_given ps p r.listed) r.used) ∙ r.has)
nothing_told ts d end ps label kind.Ban (suc e) f kept (p, r, is) =
    true≢false (sym r.has ∙ kept (as_given p) (in_map as_given ps p r.listed) r.used)

triggered_given : (d : Dependency) (ps : List PlacedSegment) → list_any (is_trigger d) ps ≡ list_any (triggers d) (map as_given ps)
triggered_given d ps = any_view (triggers d) as_given ps

placed_kept : (g : GuideTree) (d : Delims) (body : List Segment) (given : List (Option Place)) (end : ℕ) → IsWellFormed g
    → ((f : Fault) → IsDependencyFault g d body given end f → ⊥)
    ↔ AreDependenciesKept g.depends d (map as_given (placed_segments g.nodes body given))
placed_kept g d body given end well =
    let ps = placed_segments g.nodes body given in (
      λ none x c t. target_kept g.nodes d end ps x.target x.kind x.element (seated g x well c)
          (λ f b. none f (record { dependency = x; listed = c; triggered = triggered_given x ps ∙ t; broken = b })),
      λ kept f r. nothing_told g.nodes d end ps r.dependency.target r.dependency.kind r.dependency.element f
          (kept r.dependency r.listed (sym (triggered_given r.dependency ps) ∙ r.triggered)) r.broken,
    )

-- of a body of which these are the segments that have places, with their slots
pub dependencies_of_placed : (g : GuideTree) (d : Delims) (xs : List Given) (body : List Segment) (given : List (Option Place)) (end : ℕ)
    → IsWellFormed g → map as_given (placed_segments g.nodes body given) ≡ xs
    → ((f : Fault) → IsDependencyFault g d body given end f → ⊥) ↔ AreDependenciesKept g.depends d xs
dependencies_of_placed g d xs body given end well are =
    subst (λ (ys : List Given). ((f : Fault) → IsDependencyFault g d body given end f → ⊥) ↔ AreDependenciesKept g.depends d ys) are
    (placed_kept g d body given end well)

-- as a derivation of the body gives it: each segment has a place that leads to its slot
pub dependencies_kept : (g : GuideTree) (d : Delims) (xs : List Given) (body : List Segment) (given : List (Option Place)) (end : ℕ)
    → IsWellFormed g → map (λ (x : Given). x.0) xs ≡ body → map (slot_given g.nodes) given ≡ map (λ (x : Given). Some x.1) xs
    → ((f : Fault) → IsDependencyFault g d body given end f → ⊥) ↔ AreDependenciesKept g.depends d xs
dependencies_kept g d xs body given end well are led =
    dependencies_of_placed g d xs body given end well (placed_given g.nodes xs body given are led)
