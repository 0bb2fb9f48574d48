-- X12.5, interchange, and X12.6, functional group and transaction set: an interchange after its header with all its trailers, in the
-- elements of its segments.
use Rattle.std.specs.Prelude.{◌≡◌, ℕ, ◌≤◌, ◌&&◌, ◌==◌, Bool, true, List, [], ◌∷◌, ◌++◌, length, decimal}
use Rattle.std.specs.List.{All, flat_map, list_all}
use Rattle.std.specs.Char.{is_ascii_uppercase}
use Rattle.hub_kinds.specs.Words.{is_number, is_word}
use Rattle.hub_kinds.specs.declared.limits.TheConstants.{MOST_CONTROL_DIGITS}
use Rattle.x12_segs.specs.Words.{may_stand_in_set, kind_by_id, part_or_empty}
use Rattle.x12_segs.specs.declared.kind.Kind.{Kind}
use Rattle.x12_segs.specs.declared.kind.Kind.TheVariants.{InterchangeTrailer, GroupHeader, GroupTrailer, SetHeader, SetTrailer, Ta1}
use Rattle.x12_write.specs.Number.{padded_number}

-- a segment: its id, and its elements
abbrev pub Elements : Type 0
Elements = List (List ℕ)

abbrev pub kind_by : Elements → Kind
kind_by elements = kind_by_id (part_or_empty elements 0)

-- set = ST inner* SE
pub record WholeSet : Type 0 where
  pub header : Elements
  pub inner : List Elements
  pub trailer : Elements

-- group = GS set* GE
pub record WholeGroup : Type 0 where
  pub header : Elements
  pub sets : List WholeSet
  pub trailer : Elements

-- what comes after a header = TA1* group* IEA
pub record Whole : Type 0 where
  pub ta1s : List Elements
  pub groups : List WholeGroup
  pub trailer : Elements

abbrev pub set_segments : WholeSet → List Elements
set_segments s = s.header ∷ (s.inner ++ s.trailer ∷ [])

abbrev pub group_segments : WholeGroup → List Elements
group_segments g = g.header ∷ (flat_map set_segments g.sets ++ g.trailer ∷ [])

abbrev pub whole_segments : Whole → List Elements
whole_segments w = w.ta1s ++ (flat_map group_segments w.groups ++ w.trailer ∷ [])

-- the form of a GS: two upper-case letters, a number of 1 to 9 digits, a version of 1 to 12 letters or digits
abbrev pub is_gs : Elements → Bool
is_gs gs =
    (length (part_or_empty gs 1) == 2) && list_all is_ascii_uppercase (part_or_empty gs 1)
    && is_number MOST_CONTROL_DIGITS (part_or_empty gs 6) && is_word 1 12 (part_or_empty gs 8)

-- the form of an ST: an id of three letters or digits, a number of 1 to 9 letters or digits
abbrev pub is_st : Elements → Bool
is_st st = is_word 3 3 (part_or_empty st 1) && is_word 1 9 (part_or_empty st 2)

-- ST in its form; no control segment between it and SE
pub record IsWholeSet (s : WholeSet) : Type 0 where
  pub kind : kind_by s.header ≡ SetHeader
  pub header : is_st s.header ≡ true
  pub inner : list_all (λ x. may_stand_in_set (kind_by x)) s.inner ≡ true
  pub trailer : kind_by s.trailer ≡ SetTrailer

-- GS in its form
pub record IsWholeGroup (g : WholeGroup) : Type 0 where
  pub kind : kind_by g.header ≡ GroupHeader
  pub header : is_gs g.header ≡ true
  pub sets : All IsWholeSet g.sets
  pub trailer : kind_by g.trailer ≡ GroupTrailer

-- IEA counts the groups, of which there are at most 99,999, and has the number of the header
pub record IsWhole (number : ℕ) (w : Whole) : Type 0 where
  pub ta1s : All (λ x. kind_by x ≡ Ta1) w.ta1s
  pub groups : All IsWholeGroup w.groups
  pub few : length w.groups ≤ 99999
  pub kind : kind_by w.trailer ≡ InterchangeTrailer
  pub counted : part_or_empty w.trailer 1 ≡ decimal (length w.groups)
  pub numbered : part_or_empty w.trailer 2 ≡ padded_number 9 number
