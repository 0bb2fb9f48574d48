-- The definition of a night and those of the layers are one: a text and its setup.
use Rattle.std.specs.Prelude.{◌≡◌, ℕ, List, [], map, Option, option_map, bytes_eq}
use Rattle.std.specs.List.{list_any}
use Rattle.x12_segs.specs.Words.{SegValue, element_of, kind_of}
use Rattle.guide_tree.specs.View as rows
use Rattle.partner_setup.specs.Setup.{SetupValue}
use Rattle.partner_setup.specs.Setup as setups
use Rattle.set_check.specs.Codes as codes
use Rattle.set_answers.specs.Answers as answers
use Rattle.set_answers.specs.Settled as settled
use Rattle.set_answers.specs.declared.answered.AnsweredGroup as checked
use Rattle.number_register.specs.SeenNumbers.{is_among}
use Rattle.env_index.specs.declared.entry.SetEnvelope.{SetEnvelope}
use Rattle.env_index.specs.Words as then
use Rattle.night_definition.specs.Envelopes.{Set, Group, read, in_body}
use Rattle.night_definition.specs.Interchanges.{Interchange, reach_at, text_of}
use Rattle.night_definition.specs.Setup.{sender_of, route_of, guide_of, fault_alone, judged_after}
use Rattle.night_definition.specs.Sets.{control_of}
use Rattle.night_definition.specs.Answers.{group_codes, groups_after}
use Rattle.night_equal_text.specs.Spanned.{AreGroupsIn, AreInterchangesIn}
use Rattle.night_equal_text.specs.Answered.{ChecksAreOne, AreGroupsOf}
use Rattle.night_equal_text.specs.Faulty.{fault_to_seven, AreJudgedAs}
use Rattle.night_equal_text.specs.LookedUp.{seen_setup}
use Rattle.night_equal_text.specs.Seen.{seen, seen_reach, content_of, IsSame, AreSame}
use Rattle.night_equal_text.specs.Kept.{IsSetKept, AreSetsKept, IsGroupKept, AreGroupsKept, IsKept}

-- the segments after a header up to the end of the interchange, and that end
abbrev pub ReachesAreOne : Type 0
ReachesAreOne = (text : List ℕ) (offset : ℕ) → reach_at text offset ≡ seen_reach (then.reach_at text offset)

-- segments that derive a tree of envelopes are read as this tree
abbrev pub ContentsAreOne : Type 0
ContentsAreOne = (segs : List SegValue) (tree : then.Body SegValue) → then.DerivesInterchange kind_of segs tree
    → read (map seen segs) in_body ≡ content_of tree

-- an interchange of one tree with the index's: headers and trailers of its groups and sets, counts of segments and TA1s, what is
-- out of place, and IEA are those that the index keeps
abbrev pub InterchangesAreKept : Type 0
InterchangesAreKept = (text : List ℕ) (x : Interchange) (e : then.InterchangeEntry) → IsSame text x e → IsKept x e

-- the interchanges of a text are those of its index, in order, and as many bytes are outside
abbrev pub TextsAreIndexes : Type 0
TextsAreIndexes = (text : List ℕ) (index : then.IndexValue) → then.IsIndex text index
    → AreSame text (text_of text).interchanges index.entries × ((text_of text).outside ≡ index.outside)

-- the least of the faults 1 to 7 of an interchange
abbrev pub FaultsAreOne : Type 0
FaultsAreOne = (x : Interchange) (e : then.InterchangeEntry) → IsKept x e → fault_to_seven x ≡ then.fault_of e

-- who sends: the partner that a header names
abbrev pub SendersAreOne : Type 0
SendersAreOne = (setup : SetupValue) (header : List ℕ) → sender_of (seen_setup setup) header ≡ setups.sender_of setup header

-- the partners to which sets of a GS03 go
abbrev pub RoutesAreOne : Type 0
RoutesAreOne = (setup : SetupValue) (gs03 : List ℕ) → route_of (seen_setup setup) gs03 ≡ setups.route_of setup gs03

-- the partner's guide for a GS and an ST01, its rows seen as a tree
abbrev pub GuidesAreOne : Type 0
GuidesAreOne = (setup : SetupValue) (partner : ℕ) (gs : SegValue) (st01 : List ℕ)
    → guide_of (seen_setup setup) partner (seen gs).elements st01
    ≡ option_map rows.guide_of (setups.guide_for_set setup partner (element_of gs 1) (element_of gs 8) st01)

-- the least of the faults 1 to 8 of an entry of an index
abbrev pub FaultsAloneAreOne : Type 0
FaultsAloneAreOne = (setup : SetupValue) (x : Interchange) (e : then.IndexEntry) → IsKept x e.interchange
    → e.fault ≡ then.fault_of e.interchange → fault_alone (seen_setup setup) x ≡ settled.fault_alone setup e

-- the interchanges of a text with their senders and faults, 9 among them, are the settled entries of its index
abbrev pub NightsAreSettled : Type 0
NightsAreSettled = (text : List ℕ) (setup : SetupValue) (index : then.IndexValue) → then.IsIndex text index
    → AreJudgedAs text setup (judged_after (seen_setup setup) [] (text_of text).interchanges)
    (settled.settled_entries setup index.entries)

-- each set of a text has the ST, the body and the SE that its check reads in its span
abbrev pub SetsAreParts : Type 0
SetsAreParts = (text : List ℕ) (index : then.IndexValue) → then.IsIndex text index
    → AreInterchangesIn text (text_of text).interchanges index.entries

-- whether an earlier set of a group has the ST02 of a set
abbrev pub SetNumbersAreOne : Type 0
SetNumbersAreOne = (before : List Set) (olds : List SetEnvelope) (s : Set) (e : SetEnvelope) → AreSetsKept before olds → IsSetKept s e
    → list_any (λ t. bytes_eq (control_of t) (control_of s)) before
    ≡ is_among (codes.control_of e.header) (answers.controls_of olds)

-- the codes of a group after the others of its interchange (AK905 to AK909)
abbrev pub GroupCodesAreOne : Type 0
GroupCodesAreOne = (sent : answers.SentValue) (before : List Group) (olds : List then.GroupEntry) (g : Group) (e : then.GroupEntry)
    → AreGroupsKept before olds → IsGroupKept g e
    → group_codes (seen_setup sent.setup) sent.sender before g ≡ answers.codes_where sent (answers.has_number_among olds e) e

-- once a set that was checked is answered alike, the groups of an interchange are answered alike, each after those before it
abbrev pub AnswersFollow : Type 0
AnswersFollow = ChecksAreOne → (sent : answers.SentValue) (gs : List Group) (es : List then.GroupEntry)
    (os : List (Option checked.AnsweredGroup)) → AreGroupsKept gs es → AreGroupsIn sent.text sent.delims gs es
    → answers.AreGroupAnswers sent es os → AreGroupsOf (groups_after (seen_setup sent.setup) sent.sender sent.delims [] gs) os
