-- X12.6, order of segments (own): the places, turns and marks of a walk as the definitions see them. Private.
use Rattle.std.specs.Prelude.{ℕ, ◌+◌, ◌<◌, ◌≤◌, length, ◌++◌, List, [], ◌∷◌, map, take, drop, Option, Some, None, option_map}
use Rattle.std.specs.Prelude.{Bool, true, false, if◌then◌else◌, ◌≡◌}
use Rattle.std.specs.List.{AllByRecursion}
use Rattle.guide_tree.specs.Words.{Trees, Segment, Pair, Place, use_of, Candidate, next_place_of}
use Rattle.loop_match.specs.Given.{given_from}
use Rattle.loop_match.specs.declared.next.Step.{Step}
use Rattle.loop_match.specs.declared.next.Start.{Start}
use Rattle.loop_match.specs.declared.next.Turn.{Turn}
use Rattle.loop_match.specs.declared.walk.Mark.{Mark}
use Rattle.loop_match.specs.declared.walk.Walk.{Walk}

abbrev pub step_view : Step → Pair
step_view s = use_of s.child s.use_no

abbrev pub place_view : List Step → Place
place_view ss = map step_view ss

abbrev pub below_start : Bool → Place
below_start into_loop = if into_loop then use_of 0 0 ∷ [] else []

abbrev pub started : Start → Candidate
started t = record { place = below_start t.into_loop; slot = t.slot.now }

abbrev pub turned : Place → Turn → Candidate
turned p t = record { place = take t.depth p ++ (use_of t.child t.use_no ∷ below_start t.into_loop); slot = t.slot.now }

-- no step at all is the beginning, or no place
abbrev pub last_of : Place → Option Place
last_of [] = None
last_of (a ∷ q) = Some (a ∷ q)

-- a segment's place and slot, by where its steps begin and how many they are; a stray has no slot
abbrev pub mark_view : List Step → Mark → Option Candidate
mark_view steps m = option_map (λ s. record { place = place_view (take m.depth (drop m.start steps)); slot = s.now }) m.slot

abbrev pub marks_view : List Step → List Mark → List (Option Candidate)
marks_view steps marks = map (mark_view steps) marks

-- what the walk will have given once it went over the body
abbrev pub given_behind : Trees → Walk → List Segment → List (Option Candidate)
given_behind ts w body = marks_view w.steps.items w.marks.items ++ given_from ts (last_of (place_view w.last.items)) body

-- each mark's steps are there, and the last place's uses are fewer than a bound
pub record IsWalk (w : Walk) (uses : ℕ) : Type 0 where
  pub within : AllByRecursion (λ m. m.start + m.depth ≤ length w.steps.items) w.marks.items
  pub room : AllByRecursion (λ s. s.use_no < uses) w.last.items

-- a segment that has a place is the last one then; a stray changes nothing
abbrev pub HasGone : Trees → (old new : List Step) → Segment → (placed : Bool) → Type 0
HasGone ts old new s true =
    (next_place_of ts (last_of (place_view old)) s ≡ Some (place_view new)) × (last_of (place_view new) ≡ Some (place_view new))
HasGone ts old new s false = (next_place_of ts (last_of (place_view old)) s ≡ None) × (new ≡ old)
