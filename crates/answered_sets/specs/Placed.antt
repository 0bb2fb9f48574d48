-- Private. A set of a judged interchange, read from it by the numbers of its group and of itself.
use Rattle.std.specs.Prelude.{ℕ, ◌+◌, ◌<◌, List, [], ◌++◌, Option, Some, None, drop, length, slice_get, slice_index_or}
use Rattle.x12_bytes.specs.declared.delims.Delims.{Delims}
use Rattle.x12_segs.specs.Words.{SegValue}
use Rattle.env_index.specs.declared.entry.SetEnvelope.{SetEnvelope}
use Rattle.env_index.specs.Words.{GroupEntry}
use Rattle.answered_sets.specs.Judged.{JudgedValue, PlacedValue, all_sets, sets_from, sets_of_groups_from, standing_at}

abbrev no_delims : Delims
no_delims = record { element = 0; component = 0; repetition = None; terminator = 0 }

abbrev no_segment : SegValue
no_segment = record { start = 0; bytes = []; delims = no_delims }

abbrev pub no_group : GroupEntry
no_group = record { header = no_segment; sets = []; trailer = None }

abbrev pub no_set : SetEnvelope
no_set = record { header = no_segment; segments = 0; trailer = None; end = 0 }

abbrev pub group_at : List GroupEntry → ℕ → GroupEntry
group_at groups n = slice_index_or groups n no_group

abbrev pub set_at : List SetEnvelope → ℕ → SetEnvelope
set_at sets n = slice_index_or sets n no_set

abbrev pub groups_in : JudgedValue → List GroupEntry
groups_in x = x.interchange.content.groups

abbrev pub placed_at : JudgedValue → (group set : ℕ) → PlacedValue
placed_at x group set = record {
  interchange = x;
  group = group_at (groups_in x) group;
  standing = standing_at x.standings group;
  index = set;
  set = set_at (group_at (groups_in x) group).sets set;
}

abbrev pub IsPlace : JudgedValue → (group set : ℕ) → Type 0
IsPlace x group set = (group < length (groups_in x)) × (set < length (group_at (groups_in x) group).sets)

-- the sets of an interchange that are left, the next of them being this one of this group
abbrev pub sets_left_in : JudgedValue → (group set : ℕ) → List PlacedValue
sets_left_in x group set =
    sets_from x (group_at (groups_in x) group) (standing_at x.standings group) set (drop set (group_at (groups_in x) group).sets)
    ++ sets_of_groups_from x (group + 1) (drop (group + 1) (groups_in x))

abbrev pub sets_left_of : Option JudgedValue → (group set : ℕ) → List PlacedValue
sets_left_of None group set = []
sets_left_of (Some x) group set = sets_left_in x group set

-- those of interchanges, the next of which is the interchange at this place
abbrev pub sets_left : List JudgedValue → (at group set : ℕ) → List PlacedValue
sets_left xs at group set = sets_left_of (slice_get xs at) group set ++ all_sets (drop (at + 1) xs)
