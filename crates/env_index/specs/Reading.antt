-- X12.5, interchange, and X12.6, functional group and transaction set: what one more segment makes of what has been read
-- (for the builder's own clauses; no public clause cites it).
use Rattle.std.specs.Prelude.{ℕ, ◌+◌, List, [], ◌∷◌, ◌++◌, Bool, true, false, Option, Some, None, map, option_map, unwrap_or}
use Rattle.x12_bytes.specs.declared.delims.Delims.{Delims}
use Rattle.x12_segs.specs.Words.{SegValue}
use Rattle.x12_segs.specs.declared.kind.Kind.{Kind}
use Rattle.x12_segs.specs.declared.kind.Kind.TheVariants.{InterchangeTrailer, GroupHeader, GroupTrailer, SetHeader, SetTrailer}
use Rattle.x12_segs.specs.declared.kind.Kind.TheVariants.{Ta1, Other}
use Rattle.env_index.specs.declared.entry.SetEnvelope.{SetEnvelope}
use Rattle.env_index.specs.declared.builder.Builder.{Builder}
use Rattle.env_index.specs.Extents.{behind}
use Rattle.env_index.specs.Places.{seg_in, set_in, group_in}
use Rattle.env_index.specs.Summary.{GroupEntry, Summary}

-- the groups that are whole; how many TA1 there were, and whether a segment was out of place; the GS of an open group and its
-- whole sets; the ST of an open set, how many segments are after it so far, and the last of these
pub record State : Type 0 where
  pub groups : List GroupEntry
  pub ta1s : ℕ
  pub misplaced : Bool
  pub group : Option SegValue
  pub sets : List SetEnvelope
  pub set : Option SegValue
  pub count : ℕ
  pub last : Option SegValue

-- nothing yet
abbrev pub nothing_read : State
nothing_read = record { groups = []; ta1s = 0; misplaced = false; group = None; sets = []; set = None; count = 0; last = None }

-- where the open set with this ST would end without SE
abbrev pub end_so_far : State → SegValue → ℕ
end_so_far s header = behind (unwrap_or s.last header)

-- the open set ends, without SE or with it
abbrev pub end_set_by : State → Option SegValue → Option SegValue → State
end_set_by s trailer None = s
end_set_by s None (Some header) = record s {
  sets = s.sets ++ (let e : SetEnvelope = record {
    header = header;
    segments = s.count + 1;
    trailer = None;
    end = end_so_far s header;
  } in e) ∷ [];
  set = None;
}
end_set_by s (Some seg) (Some header) = record s {
  sets = s.sets ++ (let e : SetEnvelope = record {
    header = header;
    segments = s.count + 2;
    trailer = Some seg;
    end = behind seg;
  } in e) ∷ [];
  set = None;
}

abbrev pub end_set : Option SegValue → State → State
end_set trailer s = end_set_by s trailer s.set

-- the open group ends, without GE or with it
abbrev pub end_group_by : State → Option SegValue → Option SegValue → State
end_group_by s trailer None = s
end_group_by s trailer (Some header) = record s {
  groups = s.groups ++ (let g : GroupEntry = record { header = header; sets = s.sets; trailer = trailer } in g) ∷ [];
  sets = [];
  group = None;
}

abbrev pub end_group : Option SegValue → State → State
end_group trailer s = end_group_by s trailer s.group

-- all that is open ends
abbrev pub end_all : State → State
end_all s = end_group None (end_set None s)

abbrev pub misplace : State → State
misplace s = record s { misplaced = true }

-- one more segment of this kind, by what is open
abbrev pub step_in : Kind → SegValue → State → Option SegValue → Option SegValue → State
step_in InterchangeTrailer x s group set = end_all s
step_in GroupHeader x s group set = record (end_all s) { group = Some x; sets = []; set = None }
step_in GroupTrailer x s None set = misplace s
step_in GroupTrailer x s (Some group) set = end_group (Some x) (end_set None s)
step_in SetHeader x s None set = misplace s
step_in SetHeader x s (Some group) set = record (end_set None s) { set = Some x; count = 0; last = None }
step_in SetTrailer x s None set = misplace s
step_in SetTrailer x s (Some group) None = misplace s
step_in SetTrailer x s (Some group) (Some set) = end_set (Some x) s
step_in Ta1 x s None set = record s { ta1s = s.ta1s + 1 }
step_in Ta1 x s (Some group) None = misplace s
step_in Ta1 x s (Some group) (Some set) = record s { count = s.count + 1; last = Some x }
step_in Other x s None set = misplace s
step_in Other x s (Some group) None = misplace s
step_in Other x s (Some group) (Some set) = record s { count = s.count + 1; last = Some x }

abbrev pub step : Kind → SegValue → State → State
step k x s = step_in k x s s.group s.set

-- the groups and what is beside them, where nothing is open
abbrev pub finished : Option SegValue → State → Summary
finished trailer s = record { groups = s.groups; ta1s = s.ta1s; misplaced = s.misplaced; trailer = trailer }

-- what the fields of a builder mean
abbrev pub state_of : List ℕ → Delims → Builder → State
state_of text delims b = record {
  groups = map (group_in text delims) b.groups.items;
  ta1s = b.ta1s;
  misplaced = b.misplaced;
  group = option_map (seg_in text delims) b.group;
  sets = map (set_in text delims) b.sets.items;
  set = option_map (seg_in text delims) b.set;
  count = b.count;
  last = option_map (seg_in text delims) b.last;
}
