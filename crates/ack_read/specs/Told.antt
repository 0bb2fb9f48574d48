-- X12.5, interchange acknowledgment (TA1), and the 999 guide (005010X231): what the segments of acknowledgments report, each where it
-- is.
use Rattle.std.specs.Prelude.{ℕ, ◌+◌, Bool, true, false, List, [], ◌∷◌, ◌++◌, filter, drop, slice_index_or}
use Rattle.x12_bytes.specs.declared.delims.Delims.{Delims}
use Rattle.night_definition.specs.Segments.{Elements, element}
use Rattle.night_definition.specs.Elements.{components}
use Rattle.night_definition.specs.ReadBack.{segments_in}
use Rattle.ack_read.specs.Kinds.{ack_kind}
use Rattle.ack_read.specs.declared.kind.AckKind.{AckKind}
use Rattle.ack_read.specs.declared.kind.AckKind.TheVariants as kind
use Rattle.ack_read.specs.declared.told.ElementTold.{ElementTold}
use Rattle.ack_read.specs.declared.told.GroupTold.{GroupTold}
use Rattle.ack_read.specs.declared.told.NoteTold.{NoteTold}
use Rattle.ack_read.specs.declared.told.NoteTold.TheVariants as note
use Rattle.ack_read.specs.declared.told.SegmentTold.{SegmentTold}
use Rattle.ack_read.specs.declared.told.SetTold.{SetTold}
use Rattle.ack_read.specs.declared.told.Ta1Told.{Ta1Told}
use Rattle.ack_read.specs.declared.told.Told.{Told}
use Rattle.ack_read.specs.declared.told.Told.TheVariants as told

-- where a segment is: in which interchange, counted from 1; after which AK1 (AK101, AK102) and which AK2 (AK201, AK202); after which
-- IK3; and what is reported of the segments and elements of the set so far
pub record Standing : Type 0 where
  pub interchange : ℕ
  pub functional_id : List ℕ
  pub group_control : List ℕ
  pub identifier : List ℕ
  pub control : List ℕ
  pub segment : SegmentTold
  pub notes : List NoteTold

abbrev pub no_segment : SegmentTold
no_segment = record { id = []; position = []; loop_id = []; code = [] }

-- at the begin of a text
abbrev pub at_begin : Standing
at_begin = record {
  interchange = 0;
  functional_id = [];
  group_control = [];
  identifier = [];
  control = [];
  segment = no_segment;
  notes = [];
}

abbrev pub has_bytes : List ℕ → Bool
has_bytes [] = false
has_bytes (b ∷ bs) = true

-- the codes from element k on, those that are there
abbrev pub codes_from : ℕ → (segment : Elements) → List (List ℕ)
codes_from k s = filter has_bytes (drop k s)

-- IK301 to IK304
abbrev pub segment_told : (segment : Elements) → SegmentTold
segment_told s = record { id = element 1 s; position = element 2 s; loop_id = element 3 s; code = element 4 s }

-- IK401, divided into the numbers of the element, the component and the repetition, and IK402 to IK404
abbrev pub element_told : Delims → (segment : Elements) → ElementTold
element_told d s =
    let place = components d (element 1 s) in
    record {
      element = slice_index_or place 0 [];
      component = slice_index_or place 1 [];
      repetition = slice_index_or place 2 [];
      reference = element 2 s;
      code = element 3 s;
      copy = element 4 s;
    }

-- where the segments after a segment are
abbrev pub behind_kind : Delims → Standing → (segment : Elements) → AckKind → Standing
behind_kind d at s kind.InterchangeHeader = record at { interchange = at.interchange + 1 }
behind_kind d at s kind.GroupHeader = record at { functional_id = element 1 s; group_control = element 2 s }
behind_kind d at s kind.SetHeader = record at { identifier = element 1 s; control = element 2 s; notes = [] }
behind_kind d at s kind.SegmentNote =
    record at { segment = segment_told s; notes = at.notes ++ note.OfSegment (segment_told s) ∷ [] }
behind_kind d at s kind.ElementNote = record at { notes = at.notes ++ note.OfElement at.segment (element_told d s) ∷ [] }
behind_kind d at s kind.SetResponse = record at { notes = [] }
behind_kind d at s kind.GroupResponse = at
behind_kind d at s kind.Ta1 = at
behind_kind d at s kind.Other = at

abbrev pub behind : Delims → Standing → (segment : Elements) → Standing
behind d at s = behind_kind d at s (ack_kind (element 0 s))

-- TA101 to TA105
abbrev pub ta1_told : Standing → (segment : Elements) → Ta1Told
ta1_told at s = record {
  interchange = at.interchange;
  control = element 1 s;
  date = element 2 s;
  time = element 3 s;
  code = element 4 s;
  note = element 5 s;
}

-- IK501, and IK502 to IK506
abbrev pub set_told : Standing → (segment : Elements) → SetTold
set_told at s = record {
  interchange = at.interchange;
  functional_id = at.functional_id;
  group_control = at.group_control;
  identifier = at.identifier;
  control = at.control;
  notes = at.notes;
  code = element 1 s;
  codes = codes_from 2 s;
}

-- AK901 to AK904, and AK905 to AK909
abbrev pub group_told : Standing → (segment : Elements) → GroupTold
group_told at s = record {
  interchange = at.interchange;
  functional_id = at.functional_id;
  control = at.group_control;
  code = element 1 s;
  listed = element 2 s;
  received = element 3 s;
  accepted = element 4 s;
  codes = codes_from 5 s;
}

-- what a segment reports: a TA1 of an interchange, an IK5 of a set, an AK9 of a group; any other reports nothing by itself
abbrev pub told_by_kind : Standing → (segment : Elements) → AckKind → List Told
told_by_kind at s kind.Ta1 = told.OfInterchange (ta1_told at s) ∷ []
told_by_kind at s kind.SetResponse = told.OfSet (set_told at s) ∷ []
told_by_kind at s kind.GroupResponse = told.OfGroup (group_told at s) ∷ []
told_by_kind at s kind.InterchangeHeader = []
told_by_kind at s kind.GroupHeader = []
told_by_kind at s kind.SetHeader = []
told_by_kind at s kind.SegmentNote = []
told_by_kind at s kind.ElementNote = []
told_by_kind at s kind.Other = []

abbrev pub reports_of_segment : Standing → (segment : Elements) → List Told
reports_of_segment at s = told_by_kind at s (ack_kind (element 0 s))

-- what segments report, the first of which is here
abbrev pub told_behind : Delims → Standing → (segments : List Elements) → List Told
told_behind d at [] = []
told_behind d at (s ∷ ss) = reports_of_segment at s ++ told_behind d (behind d at s) ss

-- what a text reports, read by these delimiters
abbrev pub told_in : Delims → (text : List ℕ) → List Told
told_in d text = told_behind d at_begin (segments_in d text)
