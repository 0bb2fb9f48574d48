-- X12.6, order of segments: the place and the slot that each segment of a body is given; with what is wrong with their order
-- and number, as the 999 guide, IK304, reports it.
use Rattle.std.specs.Prelude.{List, [], ◌∷◌, Option, None, option_map}
use Rattle.guide_tree.specs.Words.{Trees, or_else, Segment, Place, Candidate, nexts, first_fit}
use Rattle.guide_tree.specs.declared.slot.Slot.{Slot}
use Rattle.hub_kinds.specs.declared.fault.Fault.{Fault}

-- a body that was placed: what each segment is given, and the structural faults
pub record Placed : Type 0 where
  pub given : List (Option Candidate)
  pub faults : List Fault

abbrev pub place_in : Option Candidate → Option Place
place_in c = option_map (λ c. c.place) c

abbrev pub slot_in : Option Candidate → Option Slot
slot_in c = option_map (λ c. c.slot) c

-- each segment has the first candidate after the last place given that it fits, if there is one
abbrev pub given_from : Trees → (last : Option Place) → List Segment → List (Option Candidate)
given_from ts last [] = []
given_from ts last (s ∷ body) =
    first_fit s (nexts ts last) ∷ given_from ts (or_else (place_in (first_fit s (nexts ts last))) last) body

abbrev pub given_of : Trees → List Segment → List (Option Candidate)
given_of ts body = given_from ts None body
