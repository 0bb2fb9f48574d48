-- Own: the uses of slots by their labels, what they have in an element, and what is found by them. Private.
use Rattle.std.specs.Prelude.{ℕ, ◌≡◌, ◌↔◌, IsTrue, Bool, List, [], map, is_some, ◌&&◌}
use Rattle.std.specs.BTreeSet.{BTreeSet, contains_by}
use Rattle.std.specs.Cmp.Lexicographic.{slice_cmp}
use Rattle.std.specs.List.{Contains, list_any}
use Rattle.std.specs.List.Sorted.{IsSortedByKey}
use Rattle.std.specs.Option.{option_map_or}
use Rattle.std.specs.Ordering.{nat_cmp}
use Rattle.std.specs.Str.{bytes_eq}
use Rattle.x12_bytes.specs.declared.delims.Delims.{Delims}
use Rattle.hub_kinds.specs.declared.fault.Fault.{Fault}
use Rattle.guide_tree.specs.declared.rows.Dependency.{Dependency}
use Rattle.guide_tree.specs.declared.slot.Slot.{Slot}
use Rattle.guide_tree.specs.Words.{element_at, Trees}
use Rattle.loop_match.specs.declared.placed.PlacedSeg.{PlacedSeg}
use Rattle.loop_match.specs.PlacedSegments.{PlacedSegment}
use Rattle.depend_check.specs.Dependencies.{is_use, is_dependency_triggered, IsBroken}
use denote.Ref.{Bor}

abbrev pub label_of : Slot → List ℕ
label_of s = option_map_or (λ l. l) s.label []

abbrev pub label_at : PlacedSeg → List ℕ
label_at p = label_of p.slot.now

-- they rise by the labels of their slots
abbrev pub AreByLabel : List PlacedSeg → Type 0
AreByLabel placed = IsSortedByKey label_at (slice_cmp nat_cmp) placed

-- its slot has a label, so that a dependency can name it
abbrev pub is_labelled : PlacedSegment → Bool
is_labelled p = is_some p.slot.label

-- two lists have the same uses of the slot with a label
abbrev pub HaveSameUses : (label : List ℕ) → List PlacedSegment → List PlacedSegment → Type 0
HaveSameUses label xs ys = (p : PlacedSegment) → IsTrue (is_use label p) → Contains xs p ↔ Contains ys p

-- a set of lent texts has a text
abbrev pub has : BTreeSet (Bor (List ℕ)) → (text : List ℕ) → Bool
has texts text = contains_by (λ own. slice_cmp nat_cmp text own.now) texts

-- a use of the slot with a label has a text in an element
abbrev pub has_text : (label : List ℕ) → (at : ℕ) → (text : List ℕ) → PlacedSegment → Bool
has_text label at text p = is_use label p && bytes_eq (element_at p.segment at) text

-- the set has exactly the texts that the uses of a slot have in an element
abbrev pub KnowsTexts : BTreeSet (Bor (List ℕ)) → (label : List ℕ) → (at : ℕ) → List PlacedSegment → Type 0
KnowsTexts texts label at placed = (text : List ℕ) → has texts text ≡ list_any (has_text label at text) placed

-- dependencies that are lent
abbrev pub lent : List (Bor Dependency) → List Dependency
lent ds = map (λ (d : Bor Dependency). d.now) ds

-- one of these dependencies, all of which are triggered, is broken
abbrev pub IsBrokenAmong : Trees → Delims → (end : ℕ) → List PlacedSegment → List Dependency → Fault → Type 0
IsBrokenAmong ts delims end placed ds f =
    (d : Dependency) × Contains ds d × IsBroken ts delims end placed d f

-- a dependency of the list is triggered by placed segments, and broken
pub record IsFound (ts : Trees) (delims : Delims) (end : ℕ) (placed : List PlacedSegment) (depends : List Dependency) (f : Fault)
    : Type 0 where
  pub dependency : Dependency
  pub listed : Contains depends dependency
  pub triggered : IsTrue (is_dependency_triggered dependency placed)
  pub broken : IsBroken ts delims end placed dependency f

-- two dependencies ask the same of the same slot
pub record HaveSameTarget (d e : Dependency) : Type 0 where
  pub target : d.target ≡ e.target
  pub kind : d.kind ≡ e.kind
  pub element : d.element ≡ e.element

-- a dependency is triggered by placed segments, and broken
abbrev pub IsFoundBy : Trees → Delims → (end : ℕ) → List PlacedSegment → Dependency → Fault → Type 0
IsFoundBy ts delims end placed d f = IsTrue (is_dependency_triggered d placed) × IsBroken ts delims end placed d f
