-- No fault of a hierarchy is reported of a body exactly where the HLs that have places make a whole hierarchy.
use Rattle.std.proofs.Common.{◌≡◌, ◌↔◌, inl, inr, ℕ, ◌+◌, List, map}
use Rattle.std.proofs.Common.{take, drop, refl, sym, ap, subst, ◌∙◌, true≢false, Option, Some, None}
use Rattle.std.specs.Prelude.{option_map, IsSomeAnd}
use mathlib.Core.List.{map-map}
use Rattle.std.specs.List.{slice_get}
use Rattle.std.proofs.lemmas.Bool.{false_from_ne_true}
use Rattle.std.proofs.lemmas.List.{take-map, drop-map}
use Rattle.std.proofs.lemmas.Option.{slice_get-map}
use Rattle.x12_bytes.specs.declared.delims.Delims.{Delims}
use Rattle.hub_kinds.specs.declared.fault.Fault.{Fault}
use Rattle.hub_kinds.specs.declared.codes.ElementCode.TheVariants as ik403
use Rattle.guide_tree.specs.declared.rows.HlRule.{HlRule}
use Rattle.guide_tree.specs.Words.{Trees, GuideTree, Segment, Given, Place, slot_given}
use Rattle.loop_match.specs.PlacedSegments.{PlacedSegment, placed_segments, as_given}
use Rattle.loop_match.proofs.ForAbove.{placed_given}
use Rattle.hl_check.specs.Hierarchy.{is_hl, segments_of, hl_segments, hls_of, hl_fault}
use Rattle.hl_check.specs.Hierarchy.{IsFaultAmong, IsHierarchyFault, IsHlWhole, IsHierarchyWhole}
use Rattle.hl_check.proofs.Viewing.{filter_view}

-- the HLs that have places are the HL segments of those that have places
all_segments : (ts : Trees) (xs : List Given) (body : List Segment) (given : List (Option Place))
    → map as_given (placed_segments ts body given) ≡ xs → segments_of (hls_of ts body given) ≡ hl_segments (map (λ (x : Given). x.0) xs)
all_segments ts xs body given are =
    let placed = placed_segments ts body given in
    filter_view is_hl (λ (h : PlacedSegment). h.segment) placed
    ∙ ap hl_segments (sym (map-map (λ (x : Given). x.0) as_given placed))
    ∙ ap (λ (ys : List Given). hl_segments (map (λ (x : Given). x.0) ys)) are

moved : (rule : HlRule) (d : Delims) (earlier front : List Segment) (h s : Segment) (later behind : List Segment) → earlier ≡ front → h ≡ s
    → later ≡ behind → IsHlWhole rule d earlier h later → IsHlWhole rule d front s behind
moved rule d earlier front h s later behind e is l whole =
    subst (λ (z : List Segment). IsHlWhole rule d z s behind) e
    (subst (λ (z : Segment). IsHlWhole rule d earlier z behind) is (subst (IsHlWhole rule d earlier h) l whole))

abbrev Views : List PlacedSegment → ℕ → Segment → Type 0
Views hls n s = (h : PlacedSegment) × (slice_get hls n ≡ Some h) × (h.segment ≡ s)

views_by : (hls : List PlacedSegment) (n : ℕ) (s : Segment) (o : Option PlacedSegment) → slice_get hls n ≡ o
    → option_map (λ (h : PlacedSegment). h.segment) o ≡ Some s → Views hls n s
views_by hls n s None e h = let k : None ≡ Some s = h in cc
views_by hls n s (Some x) e h =
    let k : Some x.segment ≡ Some s = h in
    let same : x.segment ≡ s = cc in
    (x, e, same)

-- where no HL is reported, each one is whole
one_whole : (rule : HlRule) (d : Delims) (hls : List PlacedSegment) (n : ℕ) (h : PlacedSegment)
    → ((f : Fault) → IsFaultAmong rule d hls f → ⊥) → slice_get hls n ≡ Some h
    → IsHlWhole rule d (segments_of (take n hls)) h.segment (segments_of (drop (n + 1) hls))
one_whole rule d hls n h none there = (
  false_from_ne_true _ (λ w. none (hl_fault h 1 ik403.PatternFailure)
      (record { count = n; hl = h; there = there; wrong = inl (w, refl) })),
  false_from_ne_true _ (λ w. none (hl_fault h 2 ik403.PatternFailure)
      (record { count = n; hl = h; there = there; wrong = inr (inl (w, refl)) })),
  false_from_ne_true _ (λ w. none (hl_fault h 3 ik403.CodeNotUsed)
      (record { count = n; hl = h; there = there; wrong = inr (inr (inl (w, refl))) })),
  false_from_ne_true _ (λ w. none (hl_fault h 4 ik403.PatternFailure)
      (record { count = n; hl = h; there = there; wrong = inr (inr (inr (w, refl))) })),
)

faultless_whole : (rule : HlRule) (d : Delims) (hls : List PlacedSegment) → ((f : Fault) → IsFaultAmong rule d hls f → ⊥)
    → IsHierarchyWhole (Some rule) d (segments_of hls)
faultless_whole rule d hls none n s there =
    let v = views_by hls n s (slice_get hls n) refl (sym (slice_get-map (λ (h : PlacedSegment). h.segment) hls n) ∙ there) in
    moved rule d (segments_of (take n hls)) (take n (segments_of hls)) v.0.segment s (segments_of (drop (n + 1) hls))
    (drop (n + 1) (segments_of hls)) (sym (take-map (λ (h : PlacedSegment). h.segment) n hls)) v.2
    (sym (drop-map (λ (h : PlacedSegment). h.segment) (n + 1) hls)) (one_whole rule d hls n v.0 none v.1)

whole_faultless : (rule : HlRule) (d : Delims) (hls : List PlacedSegment) → IsHierarchyWhole (Some rule) d (segments_of hls)
    → (f : Fault) → IsFaultAmong rule d hls f → ⊥
whole_faultless rule d hls whole f r =
    let w : IsHlWhole rule d (segments_of (take r.count hls)) r.hl.segment (segments_of (drop (r.count + 1) hls)) =
    moved rule d (take r.count (segments_of hls)) (segments_of (take r.count hls)) r.hl.segment r.hl.segment
    (drop (r.count + 1) (segments_of hls)) (segments_of (drop (r.count + 1) hls))
    (take-map (λ (h : PlacedSegment). h.segment) r.count hls) refl (drop-map (λ (h : PlacedSegment). h.segment) (r.count + 1) hls)
    (whole r.count r.hl.segment
    (slice_get-map (λ (h : PlacedSegment). h.segment) hls r.count ∙ ap (option_map (λ (h : PlacedSegment). h.segment)) r.there)) in
    elim r.wrong [
      | inl x ↦ true≢false (sym x.0 ∙ w.0)
      | inr y ↦ elim y [
        | inl x ↦ true≢false (sym x.0 ∙ w.1)
        | inr z ↦ elim z [ inl x ↦ true≢false (sym x.0 ∙ w.2) | inr x ↦ true≢false (sym x.0 ∙ w.3) ]
      ]
    ]

pub faultless_as_whole : (rule : Option HlRule) (d : Delims) (hls : List PlacedSegment)
    → ((f : Fault) → IsSomeAnd rule (λ r. IsFaultAmong r d hls f) → ⊥) ↔ IsHierarchyWhole rule d (segments_of hls)
faultless_as_whole None d hls = (λ none. tt, λ whole f h. absurd h)
faultless_as_whole (Some rule) d hls = (faultless_whole rule d hls, whole_faultless rule d hls)

-- of a body of which these are the segments that have places, with their slots
pub hierarchy_of_placed : (g : GuideTree) (d : Delims) (xs : List Given) (body : List Segment) (given : List (Option Place))
    → map as_given (placed_segments g.nodes body given) ≡ xs
    → ((f : Fault) → IsHierarchyFault g d body given f → ⊥) ↔ IsHierarchyWhole g.hl d (hl_segments (map (λ (x : Given). x.0) xs))
hierarchy_of_placed g d xs body given are =
    subst (λ (hls : List Segment). ((f : Fault) → IsHierarchyFault g d body given f → ⊥) ↔ IsHierarchyWhole g.hl d hls)
    (all_segments g.nodes xs body given are) (faultless_as_whole g.hl d (hls_of g.nodes body given))

-- as a derivation of the body gives it: each segment has a place that leads to its slot
pub hierarchy_whole : (g : GuideTree) (d : Delims) (xs : List Given) (body : List Segment) (given : List (Option Place))
    → map (λ (x : Given). x.0) xs ≡ body → map (slot_given g.nodes) given ≡ map (λ (x : Given). Some x.1) xs
    → ((f : Fault) → IsHierarchyFault g d body given f → ⊥) ↔ IsHierarchyWhole g.hl d (hl_segments body)
hierarchy_whole g d xs body given are led =
    subst (λ (segs : List Segment). ((f : Fault) → IsHierarchyFault g d body given f → ⊥) ↔ IsHierarchyWhole g.hl d (hl_segments segs)) are
    (hierarchy_of_placed g d xs body given (placed_given g.nodes xs body given are led))
