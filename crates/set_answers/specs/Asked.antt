-- What must be found out before a text is answered (own): whether the number of a place of the index is used earlier, and of a set how it
-- is checked; in the order of the places.
use Rattle.std.specs.Prelude.{◌≡◌, ◌↔◌, ℕ, Bool, true, false, List, [], ◌∷◌, ◌++◌, map, Option, Some, None}
use Rattle.std.specs.List.{AllZip}
use Rattle.hub_kinds.specs.declared.interchange.InterchangeFault.{InterchangeFault}
use Rattle.hub_kinds.specs.declared.interchange.InterchangeFault.TheVariants.{Duplicate, TrailerMissing, ControlNumberInvalid}
use Rattle.hub_kinds.specs.declared.interchange.InterchangeFault.TheVariants.{ControlNumbersDiffer, GroupCountWrong, SegmentMisplaced}
use Rattle.hub_kinds.specs.declared.interchange.InterchangeFault.TheVariants.{GroupHeaderInvalid, SetHeaderInvalid, SenderUnknown}
use Rattle.x12_segs.specs.Words.{SegValue, element_of}
use Rattle.set_check.specs.Checked.{Checked, SetAsked}
use Rattle.set_check.specs.Codes.{control_of}
use Rattle.env_index.specs.Words.{IndexEntry, Numbered, index_places, span_of, GroupEntry}
use Rattle.env_index.specs.declared.entry.SetEnvelope.{SetEnvelope}
use Rattle.partner_setup.specs.Setup.{SetupValue, guide_for_set, sender_of}
use Rattle.set_answers.specs.Answers.{SentValue, controls_of, has_number_among}
use Rattle.set_answers.specs.CheckedText.{sent_by}
use Rattle.set_answers.specs.FirstUse.{IsUsedEarlier, knows}
use Rattle.set_answers.specs.Seen.{is_among}
use Rattle.set_answers.specs.Settled.{settled_entries}
use Rattle.set_check.specs.declared.finding.Finding.{Finding}

-- whether an earlier place has the place's number; and of a set its check
pub record Asked : Type 0 where
  pub earlier : Bool
  pub set : Option SetAsked

-- a set of a group with this GS, after these
abbrev pub set_asked : SentValue → (gs : SegValue) → (before : List SetEnvelope) → SetEnvelope → Asked
set_asked sent gs before set = record {
  earlier = is_among (control_of set.header) (controls_of before);
  set = Some (record {
    text = sent.text;
    span = span_of sent.delims set;
    guide = guide_for_set sent.setup sent.sender (element_of gs 1) (element_of gs 8) (element_of set.header 1);
  });
}

-- the sets of a group that are left, after these
abbrev pub sets_asked : SentValue → (gs : SegValue) → (before : List SetEnvelope) → List SetEnvelope → List Asked
sets_asked sent gs before [] = []
sets_asked sent gs before (set ∷ sets) = set_asked sent gs before set ∷ sets_asked sent gs (before ++ set ∷ []) sets

abbrev pub group_asked : (before : List GroupEntry) → GroupEntry → Asked
group_asked before group = record { earlier = has_number_among before group; set = None }

-- the groups of an interchange that are left, each before its sets
abbrev pub groups_asked : SentValue → (before : List GroupEntry) → List GroupEntry → List Asked
groups_asked sent before [] = []
groups_asked sent before (group ∷ groups) =
    group_asked before group ∷ (sets_asked sent group.header [] group.sets ++ groups_asked sent (before ++ group ∷ []) groups)

-- an interchange has places where it has none of the faults 1 to 8
abbrev pub has_places : Option InterchangeFault → Bool
has_places None = true
has_places (Some Duplicate) = true
has_places (Some TrailerMissing) = false
has_places (Some ControlNumberInvalid) = false
has_places (Some ControlNumbersDiffer) = false
has_places (Some GroupCountWrong) = false
has_places (Some SegmentMisplaced) = false
has_places (Some GroupHeaderInvalid) = false
has_places (Some SetHeaderInvalid) = false
has_places (Some SenderUnknown) = false

abbrev pub is_duplicate : Option InterchangeFault → Bool
is_duplicate None = false
is_duplicate (Some fault) = true

abbrev pub interchange_asked : IndexEntry → Asked
interchange_asked e = record { earlier = is_duplicate e.fault; set = None }

abbrev pub entry_asked_by : (text : List ℕ) → SetupValue → IndexEntry → Bool → (sender : Option ℕ) → List Asked
entry_asked_by text setup e false sender = []
entry_asked_by text setup e true None = []
entry_asked_by text setup e true (Some sender) =
    interchange_asked e ∷ groups_asked (sent_by text setup sender e) [] e.interchange.content.groups

abbrev pub entry_asked : (text : List ℕ) → SetupValue → IndexEntry → List Asked
entry_asked text setup e = entry_asked_by text setup e (has_places e.fault) (sender_of setup e.interchange.header)

-- the interchanges of a settled index that are left
abbrev pub asked_of : (text : List ℕ) → SetupValue → List IndexEntry → List Asked
asked_of text setup [] = []
asked_of text setup (e ∷ es) = entry_asked text setup e ++ asked_of text setup es

-- a set was checked in this way
abbrev pub IsCheckedAs : Option SetAsked → Option Checked → Type 0
IsCheckedAs None found = Unit {0}
IsCheckedAs (Some asked) None = ⊥
IsCheckedAs (Some asked) (Some found) = (found.text ≡ asked.text) × (found.span ≡ asked.span) × (found.guide ≡ asked.guide)

-- what was asked was found out
pub record IsFound (asked : Asked) (found : Finding) : Type 0 where
  pub earlier : found.earlier ≡ asked.earlier
  pub set : IsCheckedAs asked.set found.checked

-- that an earlier place has a place's number is asked where the first use of the number is an earlier place
abbrev pub IsAskedAt : SetupValue → List IndexEntry → Numbered → Asked → Type 0
IsAskedAt setup es place asked = (asked.earlier ≡ true) ↔ IsUsedEarlier setup es place.place

-- one question at each place, answered by first uses
abbrev pub AreAskedByFirstUse : (text : List ℕ) → SetupValue → List IndexEntry → Type 0
AreAskedByFirstUse text setup es =
    AllZip (IsAskedAt setup es) (index_places (knows setup) (map (λ (e : IndexEntry). e.interchange) es))
    (asked_of text setup (settled_entries setup es))
