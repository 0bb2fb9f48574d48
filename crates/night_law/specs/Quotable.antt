-- X12.6, delimiters and data elements: where the reference numbers of guides, which an acknowledgment repeats, hold none of its own
-- delimiters, so that it can be read. Ids of loops are words of letters and digits in every guide that is accepted.
use Rattle.std.specs.Prelude.{◌≡◌, ℕ, true, List, filter, slice_get, IfSome, Some}
use Rattle.std.specs.Char.{is_ascii_alphanumeric}
use Rattle.std.specs.List.{All, list_all}
use Rattle.x12_bytes.specs.declared.delims.Delims.{Delims}
use Rattle.x12_segs.specs.Words.{element_of}
use Rattle.x12_write.specs.Undivided.{IsUndivided}
use Rattle.guide_tree.specs.declared.element.Element.{Element}
use Rattle.guide_tree.specs.declared.rows.GuideRows.{GuideRows}
use Rattle.guide_tree.specs.Words.{EachNode, GuideTree, Tree, loop, segment}
use Rattle.guide_tree.specs.View as view
use Rattle.elem_rules.specs.Rows.{component_reference, components_of, element_reference}
use Rattle.env_index.specs.Words.{GroupEntry, IndexEntry, IndexValue, IsIndex}
use Rattle.partner_setup.specs.declared.partner.Partner.{Partner}
use Rattle.partner_setup.specs.Setup.{SetupValue, guide_for_set}
use Rattle.set_check.specs.Checked.{guide_tree_of}
use Rattle.answered_sets.specs.Judged.{responded_groups}
use Rattle.set_answers.specs.Answers.{SentValue}
use Rattle.set_answers.specs.CheckedText.{sent_by}
use Rattle.set_answers.specs.Settled.{settled_entries}
use Rattle.night_law.specs.Told.{groups_told, is_told_to}

-- neither the element separator nor the terminator is in the reference numbers of a row and of its components
abbrev pub IsRowQuotable : Delims → Element → Type 0
IsRowQuotable d row =
    IsUndivided d (element_reference row) × All (λ component. IsUndivided d (component_reference component)) (components_of row)

-- nor in those of a guide's rows
abbrev pub IsNodeQuotable : Delims → Tree → Type 0
IsNodeQuotable d (segment s) = All (IsRowQuotable d) s.elements
IsNodeQuotable d (loop l ts) = Unit {0}

abbrev pub IsGuideQuotable : Delims → GuideTree → Type 0
IsGuideQuotable d g = EachNode (IsNodeQuotable d) g.nodes

-- nor in the guides by which the sets of a group are checked
abbrev pub IsGroupQuotable : Delims → SentValue → GroupEntry → Type 0
IsGroupQuotable d sent group =
    All (λ set. IfSome
    (guide_tree_of (guide_for_set sent.setup sent.sender (element_of group.header 1) (element_of group.header 8) (element_of set.header 1)))
    (IsGuideQuotable d)) group.sets

-- of each group that is responded to of each interchange that is acknowledged to a partner
abbrev pub AreQuotable : (text : List ℕ) → SetupValue → (place : ℕ) → Partner → List IndexEntry → Type 0
AreQuotable text setup place partner entries =
    All (λ e. All (IsGroupQuotable partner.delims (sent_by text setup place e)) (responded_groups (groups_told e)))
    (filter (is_told_to setup place) entries)

-- and of each partner, in what is answered to a text
abbrev pub AreAllQuotable : (text : List ℕ) → SetupValue → Type 0
AreAllQuotable text setup =
    (index : IndexValue) (place : ℕ) (partner : Partner) → IsIndex text index → slice_get setup.partners place ≡ Some partner
    → AreQuotable text setup place partner (settled_entries setup index.entries)

-- letters and digits alone, for which no delimiter of a partner is taken
abbrev pub IsPlainReference : (reference : List ℕ) → Type 0
IsPlainReference reference = list_all is_ascii_alphanumeric reference ≡ true

abbrev pub IsRowPlain : Element → Type 0
IsRowPlain row =
    IsPlainReference (element_reference row) × All (λ component. IsPlainReference (component_reference component)) (components_of row)

-- of the rows of a guide
abbrev pub IsNodePlain : Tree → Type 0
IsNodePlain (segment s) = All IsRowPlain s.elements
IsNodePlain (loop l ts) = Unit {0}

abbrev pub IsGuidePlain : GuideRows → Type 0
IsGuidePlain g = EachNode IsNodePlain (view.guide_of g).nodes
