-- What is known of a text once its sets are checked (own): its interchanges with their senders and faults, and of each of their
-- functional groups (X12.6) what the check left. It names no piece, worker or order of arrival.
use Rattle.std.specs.Prelude.{ℕ, ◌+◌, Bool, false, not, is_none, List, [], ◌∷◌, ◌++◌, Option, slice_index_or, codes, filter}
use Rattle.std.specs.List.{flat_map}
use Rattle.std.specs.Str.{bytes_eq}
use Rattle.x12_bytes.specs.Header.{header_delims}
use Rattle.x12_bytes.specs.declared.delims.Delims.{Delims}
use Rattle.x12_segs.specs.Words.{span_views, SegValue, element_of}
use Rattle.hub_kinds.specs.declared.interchange.InterchangeFault.{InterchangeFault}
use Rattle.hub_kinds.specs.declared.set_codes.GroupVerdict.TheVariants as group
use Rattle.hub_kinds.specs.declared.set_codes.Verdict.{Verdict}
use Rattle.hub_kinds.specs.declared.set_codes.Verdict.TheVariants as verdict
use Rattle.env_index.specs.declared.entry.SetEnvelope.{SetEnvelope}
use Rattle.env_index.specs.Words.{InterchangeEntry, span_of, GroupEntry}
use Rattle.answered_sets.specs.declared.standing.GroupStanding.{GroupStanding}

-- an interchange of a text, the sender's place in the setup, its fault if it is refused, and the standing of each of its groups
pub record JudgedValue : Type 0 where
  pub text : List ℕ
  pub interchange : InterchangeEntry
  pub sender : Option ℕ
  pub fault : Option InterchangeFault
  pub standings : List GroupStanding

-- of a group that nothing is known of
abbrev pub no_standing : GroupStanding
no_standing = record { clear = false; verdict = group.Rejected; accepted = 0; verdicts = [] }

abbrev pub standing_at : List GroupStanding → ℕ → GroupStanding
standing_at standings n = slice_index_or standings n no_standing

-- it acknowledges something itself
abbrev pub is_fa : GroupEntry → Bool
is_fa group = bytes_eq (element_of group.header 1) (codes "FA")

abbrev pub is_refused : JudgedValue → Bool
is_refused x = not (is_none x.fault)

-- the groups that are responded to (999 guide)
abbrev pub responded_groups : List GroupEntry → List GroupEntry
responded_groups groups = filter (λ group. not (is_fa group)) groups

-- a set with what is above it, and its number in its group, counted from 0
pub record PlacedValue : Type 0 where
  pub interchange : JudgedValue
  pub group : GroupEntry
  pub standing : GroupStanding
  pub index : ℕ
  pub set : SetEnvelope

-- the sets of a group, this one being the next
abbrev pub sets_from : JudgedValue → GroupEntry → GroupStanding → ℕ → List SetEnvelope → List PlacedValue
sets_from x group standing n [] = []
sets_from x group standing n (set ∷ sets) =
    record { interchange = x; group = group; standing = standing; index = n; set = set } ∷ sets_from x group standing (n + 1) sets

-- the sets of groups, this one being the next
abbrev pub sets_of_groups_from : JudgedValue → ℕ → List GroupEntry → List PlacedValue
sets_of_groups_from x n [] = []
sets_of_groups_from x n (group ∷ groups) =
    sets_from x group (standing_at x.standings n) 0 group.sets ++ sets_of_groups_from x (n + 1) groups

abbrev pub sets_of : JudgedValue → List PlacedValue
sets_of x = sets_of_groups_from x 0 x.interchange.content.groups

-- all sets, front to back
abbrev pub all_sets : List JudgedValue → List PlacedValue
all_sets xs = flat_map sets_of xs

-- the delimiters that a set is read by
abbrev pub delims_in : PlacedValue → Delims
delims_in p = header_delims p.interchange.interchange.header

-- the segments of a set, ST and SE among them
abbrev pub segments_in : PlacedValue → List SegValue
segments_in p = span_views p.interchange.text (span_of (delims_in p) p.set)

-- the verdict on a set
abbrev pub verdict_by_standing : PlacedValue → Verdict
verdict_by_standing p = slice_index_or p.standing.verdicts p.index verdict.Rejected
