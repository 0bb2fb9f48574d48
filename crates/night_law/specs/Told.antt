-- 999 guide (005010X231), AK2 and IK5: the bytes by which a partner's acknowledgments report each set that it sent, and that IK5 has the
-- code A exactly where the set meets its guide.
use Rattle.std.specs.Prelude.{◌≡◌, ◌↔◌, ℕ, ◌+◌, Bool, not, ◌&&◌, false, List, [], ◌∷◌, ◌++◌, map, take, filter, codes, decimal, is_none}
use Rattle.std.specs.Prelude.{if◌then◌else◌, Option, is_some, option_map, ◌||◌}
use Rattle.std.specs.List.{list_any}
use Rattle.x12_bytes.specs.declared.delims.Delims.{Delims}
use Rattle.x12_segs.specs.Words.{SegValue, element_of}
use Rattle.x12_write.specs.declared.envelope.Envelope.{Envelope}
use Rattle.x12_write.specs.Group.{texts_in_row}
use Rattle.x12_write.specs.Number.{set_number}
use Rattle.x12_write.specs.Segment.{segment_text}
use Rattle.hub_kinds.specs.Words.{group_code_text, group_verdict_text, set_code_text, verdict_text}
use Rattle.hub_kinds.specs.declared.answers.GroupAnswer.{GroupAnswer}
use Rattle.hub_kinds.specs.declared.answers.SetAnswer.{SetAnswer}
use Rattle.hub_kinds.specs.declared.set_codes.SetCode.{SetCode}
use Rattle.hub_kinds.specs.declared.set_codes.Verdict.{Verdict}
use Rattle.env_index.specs.Words.{IndexEntry, IndexValue, IsIndex, GroupEntry}
use Rattle.env_index.specs.declared.entry.SetEnvelope.{SetEnvelope}
use Rattle.count_numbers.specs.Num.{num}
use Rattle.partner_setup.specs.declared.partner.Partner.{Partner}
use Rattle.partner_setup.specs.Envelopes.{envelope_to}
use Rattle.partner_setup.specs.Setup.{SetupValue, has_version, sender_of}
use Rattle.ack_999.specs.Faults.{notes, notes_text}
use Rattle.ack_999.specs.Group.{received_sets, totals_of}
use Rattle.ack_999.specs.Interchange.{interchange_text}
use Rattle.ack_999.specs.Ta1.{ta1_text}
use Rattle.ack_999.specs.Report.{accepted_sets, convention_text, listed_sets, segment_count}
use Rattle.ack_999.specs.declared.totals.Totals.{Totals}
use Rattle.answered_sets.specs.Answered.{ta1_note}
use Rattle.answered_sets.specs.Judged.{is_fa}
use Rattle.set_answers.specs.declared.answered.AnsweredGroup.{AnsweredGroup}
use Rattle.set_answers.specs.Answers.{IsGroupAnswer, IsSetAnswer, SentValue}
use Rattle.set_answers.specs.CheckedText.{is_partner, sent_by}
use Rattle.set_answers.specs.Pairs.{AreAllPairs}
use Rattle.set_answers.specs.Settled.{settled_entries}
use Rattle.night_law.specs.Meets.{Meets}

-- AK2 of a set with this ST: ST01, ST02, and ST03 where it is the name of a convention
abbrev pub set_opening : Delims → (st : SegValue) → List ℕ
set_opening d st = segment_text d (codes "AK2") (element_of st 1 ∷ element_of st 2 ∷ convention_text (element_of st 3) ∷ [])

-- IK5 with a verdict and codes
abbrev pub set_closing : Delims → Verdict → List SetCode → List ℕ
set_closing d verdict set_codes = segment_text d (codes "IK5") (verdict_text verdict ∷ map set_code_text set_codes)

-- IK5 with the code A alone, byte for byte
abbrev pub accepted_closing : Delims → List ℕ
accepted_closing d = codes "IK5" ++ d.element ∷ codes "A" ++ d.terminator ∷ []

-- the bytes of a segment begin with IK5 and the code A
abbrev pub SaysAccepted : Delims → List ℕ → Type 0
SaysAccepted d text = (rest : List ℕ) × (text ≡ codes "IK5" ++ d.element ∷ codes "A" ++ rest)

-- the AK2 loop of a set after these sets of its group, by its answer: AK2, an IK3 or IK4 for each note on its faults, and IK5 with its
-- verdict and codes (IK501 to IK506), which says A exactly where the set meets its guide; the loop is then AK2 and IK5 with A alone
pub record IsSetTold (d : Delims) (sent : SentValue) (gs : SegValue) (before : List SetEnvelope) (set : SetEnvelope)
    (loop : List ℕ) : Type 0 where
  pub answer : SetAnswer
  pub answered : IsSetAnswer sent gs before set answer
  pub is : loop ≡ set_opening d set.header ++ notes_text d (notes answer.faults) ++ set_closing d answer.verdict answer.codes
  pub accepted : SaysAccepted d (set_closing d answer.verdict answer.codes) ↔ Meets sent gs before set
  pub clean : Meets sent gs before set → loop ≡ set_opening d set.header ++ accepted_closing d

-- ST and AK1 of the n-th 999, of a group with this GS: GS01, GS06 and GS08
abbrev pub group_opening : Delims → (n : ℕ) → (gs : SegValue) → List ℕ
group_opening d n gs =
    segment_text d (codes "ST") (codes "999" ∷ set_number n ∷ codes "005010X231" ∷ [])
    ++ segment_text d (codes "AK1") (element_of gs 1 ∷ element_of gs 6 ∷ element_of gs 8 ∷ [])

-- AK9 with a group's verdict (AK901), the numbers of its sets that are listed, received and accepted (AK902 to AK904) and its codes (AK905
-- to AK909), and SE of the n-th 999 with the number of its segments
abbrev pub group_closing : Delims → (n : ℕ) → GroupAnswer → Totals → List ℕ
group_closing d n g t =
    segment_text d (codes "AK9")
    (group_verdict_text g.verdict ∷ decimal (listed_sets g.listed t) ∷ decimal (received_sets t) ∷ decimal (accepted_sets g.codes t)
    ∷ map group_code_text g.codes)
    ++ segment_text d (codes "SE") (decimal (segment_count g t) ∷ set_number n ∷ [])

-- the sender has a guide with GS01 and GS08 of the group
abbrev pub is_served : SentValue → GroupEntry → Bool
is_served sent group = has_version sent.setup sent.sender (element_of group.header 1) (element_of group.header 8)

-- the sets that have an AK2 loop: those of a served group
abbrev pub told_sets : SentValue → GroupEntry → List SetEnvelope
told_sets sent group = if is_served sent group then group.sets else []

-- the n-th 999, of a group after these groups of its interchange: ST and AK1, the AK2 loops of its sets in their order, AK9 and SE by
-- its answer, and nothing else; no set of a group that isn't served meets its guide
pub record IsGroupTold (d : Delims) (sent : SentValue) (n : ℕ) (before : List GroupEntry) (group : GroupEntry)
    (report : List ℕ) : Type 0 where
  pub answered : AnsweredGroup
  pub answers : IsGroupAnswer sent before group answered
  pub loops : List (List ℕ)
  pub is : report
      ≡ group_opening d n group.header ++ texts_in_row loops ++ group_closing d n answered.answer (totals_of answered.sets)
  pub each : AreAllPairs (λ k set loop. IsSetTold d sent group.header (take k group.sets) set loop) (told_sets sent group) loops
  pub others : is_served sent group ≡ false → (before : List SetEnvelope) (set : SetEnvelope) → Meets sent group.header before set → ⊥

-- the groups that acknowledge nothing themselves, each with the groups of its interchange before it
pub record ToldGroup : Type 0 where
  pub before : List GroupEntry
  pub group : GroupEntry

abbrev pub told_groups : (before : List GroupEntry) → List GroupEntry → List ToldGroup
told_groups before [] = []
told_groups before (group ∷ groups) =
    if is_fa group then told_groups (before ++ group ∷ []) groups
    else record { before = before; group = group } ∷ told_groups (before ++ group ∷ []) groups

-- the acknowledgment of an interchange under this envelope: the TA1, if there is one, and one group, if there are 999s, in which a 999
-- represents each of these groups, in their order, counted from 1
pub record IsInterchangeTold (e : Envelope) (at : List ℕ) (number control : ℕ) (ta1 : Option (List ℕ)) (sent : SentValue)
    (groups : List GroupEntry) (acknowledgment : List ℕ) : Type 0 where
  pub reports : List (List ℕ)
  pub is : acknowledgment ≡ interchange_text e at number control ta1 reports
  pub each : AreAllPairs (λ k told report. IsGroupTold e.delims sent (1 + k) told.before told.group report) (told_groups [] groups) reports

-- it has a group that acknowledges nothing itself, and isn't refused: so it is responded to by 999s
abbrev pub has_responses : IndexEntry → Bool
has_responses e = is_none e.fault && list_any (λ g. not (is_fa g)) e.interchange.content.groups

-- the groups that it is responded to
abbrev pub groups_told : IndexEntry → List GroupEntry
groups_told e = if is_none e.fault then e.interchange.content.groups else []

-- the note of the TA1 that it is answered with
abbrev pub note_to : SetupValue → IndexEntry → Option (List ℕ)
note_to setup e = ta1_note (sender_of setup e.interchange.header) e.fault e.interchange

abbrev pub is_from : SetupValue → (place : ℕ) → IndexEntry → Bool
is_from setup place e = is_partner place (sender_of setup e.interchange.header)

-- an interchange of this partner that is acknowledged: by a TA1, by 999s, or by both
abbrev pub is_told_to : SetupValue → (place : ℕ) → IndexEntry → Bool
is_told_to setup place e = (is_some (note_to setup e) || has_responses e) && is_from setup place e

-- how many groups its acknowledgment has, and those of some
abbrev pub answered_group_count : IndexEntry → ℕ
answered_group_count e = if has_responses e then 1 else 0

abbrev pub groups_behind : List IndexEntry → ℕ
groups_behind [] = 0
groups_behind (e ∷ es) = answered_group_count e + groups_behind es

-- a partner's acknowledgments: one after the other, one for each of its interchanges that are acknowledged, in their order, numbered on
-- from its counter, as their groups are from that of groups
pub record IsPartnerTold (text : List ℕ) (setup : SetupValue) (at : List ℕ) (entries : List IndexEntry) (place : ℕ) (partner : Partner)
    (acknowledgments : List ℕ) : Type 0 where
  pub texts : List (List ℕ)
  pub is : acknowledgments ≡ texts_in_row texts
  pub each : AreAllPairs (λ k e acknowledgment. IsInterchangeTold (envelope_to setup partner) at (num partner.counters.interchange k)
      (num partner.counters.group (groups_behind (take k (filter (is_told_to setup place) entries))))
      (option_map (ta1_text partner.delims e.interchange.header) (note_to setup e))
      (sent_by text setup place e) (groups_told e) acknowledgment)
      (filter (is_told_to setup place) entries) texts

-- the acknowledgments of each partner report each set of the text
pub record AreSetsTold (text : List ℕ) (setup : SetupValue) (at : List ℕ) (acknowledgments : List (List ℕ)) : Type 0 where
  pub index : IndexValue
  pub read : IsIndex text index
  pub each : AreAllPairs
      (λ place partner told. IsPartnerTold text setup at (settled_entries setup index.entries) place partner told)
      setup.partners acknowledgments
