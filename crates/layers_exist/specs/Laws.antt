-- Each text has an index, answers to its groups and sets, and a night of the layers.
use Rattle.std.specs.Prelude.{◌≡◌, ℕ, List, Option, Some, IfSome}
use Rattle.hub_kinds.specs.declared.fault.Fault.{Fault}
use Rattle.hub_kinds.specs.Words.{AreRising}
use Rattle.guide_tree.specs.declared.rows.GuideRows.{GuideRows}
use Rattle.guide_tree.specs.Words.{IsAccepted, IsWellFormed, guide_of}
use Rattle.x12_segs.specs.Words.{SegValue, element_of}
use Rattle.env_index.specs.Words.{GroupEntry, IndexValue, IsIndex}
use Rattle.env_index.specs.declared.entry.SetEnvelope.{SetEnvelope}
use Rattle.hub_kinds.specs.declared.answers.SetAnswer.{SetAnswer}
use Rattle.partner_setup.specs.Setup.{SetupValue, guide_for_set}
use Rattle.accepted_guides.specs.Accepted.{AreGuidesAccepted}
use Rattle.set_check.specs.Checked.{guide_tree_of}
use Rattle.set_check.specs.SetFaults.{AreSetFaults}
use Rattle.set_check.specs.SetParts.{SetParts}
use Rattle.set_answers.specs.Answers.{AreGroupAnswers, IsSetAnswer, SentValue}
use Rattle.set_answers.specs.declared.answered.AnsweredGroup.{AnsweredGroup}
use Rattle.night_batches.specs.Night.{IsNight}
use Rattle.night_batches.specs.declared.night.Night.{Night}

-- the interchanges of a text, each read as a tree of envelopes, with its fault
abbrev pub EachTextHasAnIndex : Type 0
EachTextHasAnIndex = (text : List ℕ) → (index : IndexValue) × IsIndex text index

-- the faults of a set by an accepted guide, or by none, in their order, each once
abbrev pub EachSetHasItsFaults : Type 0
EachSetHasItsFaults = (guide : Option GuideRows) (parts : SetParts) → IfSome guide IsAccepted
    → (faults : List Fault) × AreSetFaults (guide_tree_of guide) parts faults × AreRising faults

-- the answers to the groups that a sender's interchange has, and to their sets
abbrev pub EachGroupHasItsAnswers : Type 0
EachGroupHasItsAnswers = (sent : SentValue) (groups : List GroupEntry) → AreGuidesAccepted sent.setup
    → (answers : List (Option AnsweredGroup)) × AreGroupAnswers sent groups answers

-- without that there may be none: a set that is to be checked by a guide with a fault has no answer
abbrev pub FaultyGuidesAnswerNothing : Type 0
FaultyGuidesAnswerNothing = (sent : SentValue) (gs : SegValue) (before : List SetEnvelope) (set : SetEnvelope) (answer : SetAnswer)
    (rows : GuideRows)
    → guide_for_set sent.setup sent.sender (element_of gs 1) (element_of gs 8) (element_of set.header 1) ≡ Some rows
    → (IsWellFormed (guide_of rows) → ⊥) → IsSetAnswer sent gs before set answer → ⊥

-- the night of a text, a setup and a moment
abbrev pub EachTextHasANight : Type 0
EachTextHasANight = (text : List ℕ) (setup : SetupValue) (at : List ℕ) → AreGuidesAccepted setup
    → (night : Night) × IsNight text setup at night
