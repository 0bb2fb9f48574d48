-- X12.5, interchange, and X12.6, functional group and transaction set: the envelopes of an interchange's segments, read front to back.
use Rattle.std.specs.Prelude.{ℕ, ◌+◌, Bool, true, false, List, [], ◌∷◌, Option, Some, None}
use Rattle.night_definition.specs.Segments.{Segment, Kind, iea, gs, ge, st, se, ta1, other, kind_of}

-- a set is ST, inner segments, and SE unless it is missing
pub record Set : Type 0 where
  pub header : Segment
  pub inner : List Segment
  pub trailer : Option Segment

-- a group is GS, sets, and GE unless it is missing
pub record Group : Type 0 where
  pub header : Segment
  pub sets : List Set
  pub trailer : Option Segment

-- the place of a segment: directly in the interchange, in a group outside its sets, or in a set
pub data Where : Type 0 where
  in_body : Where
  in_group : Where
  in_set : Where

-- What is read of the segments from a place on: the rest of the open set and its SE; the remaining sets of the open group and its GE;
-- the remaining groups; the number of TA1s; whether a segment is out of place; the IEA.
pub record Read : Type 0 where
  pub inner : List Segment
  pub se : Option Segment
  pub sets : List Set
  pub ge : Option Segment
  pub groups : List Group
  pub ta1s : ℕ
  pub misplaced : Bool
  pub iea : Option Segment

abbrev pub nothing : Read
nothing = record { inner = []; se = None; sets = []; ge = None; groups = []; ta1s = 0; misplaced = false; iea = None }

abbrev pub with_group : Segment → Read → Read
with_group s r = record r {
  inner = [];
  se = None;
  sets = [];
  ge = None;
  groups = record { header = s; sets = r.sets; trailer = r.ge } ∷ r.groups;
}

abbrev pub with_set : Segment → Read → Read
with_set s r = record r { inner = []; se = None; sets = record { header = s; inner = r.inner; trailer = r.se } ∷ r.sets }

abbrev pub with_ge : Segment → Read → Read
with_ge s r = record r { inner = []; se = None; sets = []; ge = Some s }

abbrev pub with_se : Segment → Read → Read
with_se s r = record r { inner = []; se = Some s }

abbrev pub with_inner : Segment → Read → Read
with_inner s r = record r { inner = s ∷ r.inner }

abbrev pub with_misplaced : Read → Read
with_misplaced r = record r { misplaced = true }

-- A segment and those after it. A set without SE ends before ST, GE, GS and IEA, a group without GE before GS and IEA. A set may contain
-- any other segment. In a group outside its sets only ST, GE, GS and IEA are in place; directly in the interchange only GS, IEA and TA1.
abbrev pub read_one : Kind → Where → Segment → (rest : Where → Read) → Read
read_one iea at s rest = record nothing { iea = Some s }
read_one gs at s rest = with_group s (rest in_group)
read_one st in_set s rest = with_set s (rest in_set)
read_one st in_group s rest = with_set s (rest in_set)
read_one st in_body s rest = with_misplaced (rest in_body)
read_one ge in_set s rest = with_ge s (rest in_body)
read_one ge in_group s rest = with_ge s (rest in_body)
read_one ge in_body s rest = with_misplaced (rest in_body)
read_one se in_set s rest = with_se s (rest in_group)
read_one se in_group s rest = with_misplaced (rest in_group)
read_one se in_body s rest = with_misplaced (rest in_body)
read_one ta1 in_set s rest = with_inner s (rest in_set)
read_one ta1 in_group s rest = with_misplaced (rest in_group)
read_one ta1 in_body s rest = let r = rest in_body in record r { ta1s = r.ta1s + 1 }
read_one other in_set s rest = with_inner s (rest in_set)
read_one other in_group s rest = with_misplaced (rest in_group)
read_one other in_body s rest = with_misplaced (rest in_body)

abbrev pub read : List Segment → Where → Read
read [] at = nothing
read (s ∷ segments) at = read_one (kind_of s.elements) at s (read segments)
