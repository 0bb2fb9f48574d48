-- X12.6, order of segments (own): turns that are known before a walk comes to a place, whatever the uses of its steps are. Private.
use Rattle.std.specs.Prelude.{ℕ, zero, suc, ◌+◌, ◌-◌, ◌≡◌, ◌<◌, ◌≤◌, Bool, true, false, IsTrue, if◌then◌else◌}
use Rattle.std.specs.Prelude.{List, [], ◌∷◌, ◌++◌, map, take, drop, length, Option, Some, None, option_map}
use Rattle.std.specs.List.{AllByRecursion}
use Rattle.guide_tree.specs.declared.node.Node.{Node}
use Rattle.guide_tree.specs.Fits.{fit_slot}
use Rattle.guide_tree.specs.Words.{Tree, Trees, Segment, Place, Candidate, use_of, fits, nodes_view, into, fit_start, fit_behind}
use Rattle.guide_tree.specs.Words.{past, entered, stepped_in, step_faults, may_repeat}
use Rattle.loop_match.specs.declared.next.Start.{Start}
use Rattle.loop_match.specs.Leaving.{stepped_among}
use Rattle.loop_match.specs.Steps.{below_start, last_of}
use Rattle.guide_fast.specs.IdNumber.{id_number}
use Rattle.guide_fast.specs.declared.known.KnownTurn.{KnownTurn}
use Rattle.guide_fast.specs.declared.station.Station.{Station}

abbrev pub children_of : Place → List ℕ
children_of p = map (λ a. a.child) p

-- the use of a place's step at a depth
abbrev pub use_at : Place → (depth : ℕ) → ℕ
use_at [] d = 0
use_at (a ∷ p) zero = a.use_no
use_at (a ∷ p) (suc d) = use_at p d

-- the use to which a turn goes, from a place without its first steps, that many
abbrev pub next_use : (above : ℕ) → Place → KnownTurn → ℕ
next_use n p t = if t.again then use_at p (t.depth - n) + 1 else 0

-- the place to which it goes, without these steps
abbrev pub place_by : (above : ℕ) → Place → KnownTurn → Place
place_by n p t = take (t.depth - n) p ++ (use_of t.child (next_use n p t) ∷ below_start t.into_loop)

abbrev pub led : (above : ℕ) → Place → KnownTurn → Candidate
led n p t = record { place = place_by n p t; slot = t.slot.now }

-- the first of some turns whose slot a segment fits
abbrev pub first_led : (above : ℕ) → Segment → Place → List KnownTurn → Option Candidate
first_led n s p [] = None
first_led n s p (t ∷ ts) = if fits t.slot.now s then Some (led n p t) else first_led n s p ts

-- where a node begins
abbrev pub fit_begin : Segment → Option Start → Option Candidate
fit_begin s None = None
fit_begin s (Some b) = fit_slot s (below_start b.into_loop) b.slot.now

-- to the start of a child, for the first time or again; below a number of uses nothing is reported of these
pub record IsTurnTo (n c : ℕ) (more silent : Bool) (t : Tree) (k : KnownTurn) : Type 0 where
  pub depth : k.depth ≡ n
  pub child : k.child ≡ c
  pub again : k.again ≡ more
  pub numbered : k.number ≡ id_number k.slot.now.id
  pub quiet : (v : ℕ) → v < k.quiet → IsTrue silent × ((at : ℕ) (o : List ℕ) → past at o v t ≡ [])

-- to the start of a child from a number on
pub record IsStart (n first : ℕ) (silent : Bool) (ns : List Node) (k : KnownTurn) : Type 0 where
  pub depth : k.depth ≡ n
  pub from : first ≤ k.child
  pub again : k.again ≡ false
  pub numbered : k.number ≡ id_number k.slot.now.id
  pub quiet : 0 < k.quiet → IsTrue silent × ((at : ℕ) (o : List ℕ) → entered at o (nodes_view (drop first ns)) (k.child - first) 0 ≡ [])

-- from a place with these children; below a number of uses nothing is reported on the way
pub record IsKnown (n : ℕ) (path : List ℕ) (S : (last next : Place) → Type 0) (k : KnownTurn) : Type 0 where
  pub below : n ≤ k.depth
  pub within : k.depth ≤ n + length path
  pub further : k.again ≡ true → k.depth < n + length path
  pub numbered : k.number ≡ id_number k.slot.now.id
  pub quiet : (p : Place) → children_of p ≡ path → next_use n p k < k.quiet → S p (place_by n p k)

-- after others there are turns, each of a kind; the first of them that a segment fits is that of a definition
pub record Adds (n : ℕ) (P : KnownTurn → Type 0) (Q : Place → Type 0) (F : Segment → Place → Option Candidate) (old new : List KnownTurn)
    : Type 0 where
  pub turns : List KnownTurn
  pub are : new ≡ old ++ turns
  pub each : AllByRecursion P turns
  pub fit : (s : Segment) (p : Place) → Q p → first_led n s p turns ≡ F s p

abbrev pub Any : Place → Type 0
Any p = Unit {0}

abbrev pub StandsAt : List ℕ → Place → Type 0
StandsAt path p = children_of p ≡ path

abbrev pub first_or_again : (child : ℕ) (again : Bool) → Tree → Segment → Place → Option Candidate
first_or_again child again t s p = option_map (into (use_of child (if again then use_at p 0 + 1 else 0))) (fit_start s t)

abbrev pub once_more : (in_loop : Bool) (child : ℕ) → Tree → Segment → Place → Option Candidate
once_more in_loop child t s p = if may_repeat in_loop child then first_or_again child true t s p else None

-- nothing is reported from a place to another
abbrev pub AmongSilent : Trees → (last next : Place) → Type 0
AmongSilent ts p q = (at : ℕ) (o : List ℕ) → stepped_among at o ts p q ≡ []

abbrev pub InSilent : Tree → (last next : Place) → Type 0
InSilent t p q = (at : ℕ) → stepped_in at t p q ≡ []

abbrev pub BehindSilent : Trees → (last next : Place) → Type 0
BehindSilent ts p q = (at : ℕ) → step_faults at ts (last_of p) q ≡ []

-- all turns from the places that lead by a station's children
pub record IsStation (ts : Trees) (st : Station) : Type 0 where
  pub each : AllByRecursion (IsKnown 0 st.path.items (BehindSilent ts)) st.turns.items
  pub fit : (s : Segment) (p : Place) → StandsAt st.path.items p → first_led 0 s p st.turns.items ≡ fit_behind s ts p

abbrev pub IsStationIfAny : Trees → Option Station → Type 0
IsStationIfAny ts None = Unit {0}
IsStationIfAny ts (Some st) = IsStation ts st

abbrev pub AreStations : Trees → List (Option Station) → Type 0
AreStations ts sts = AllByRecursion (IsStationIfAny ts) sts
