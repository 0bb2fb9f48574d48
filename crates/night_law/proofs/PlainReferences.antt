-- Reference numbers of letters and digits can be quoted under the delimiters of each partner of a sound setup.
use Rattle.std.proofs.Common.{◌≡◌, ℕ, Bool, true, false, cond, List, [], ◌∷◌, Option, Some, None, length, refl}
use Rattle.std.specs.Prelude.{IfSome, filter, find, slice_get}
use Rattle.std.specs.List.{All}
use Rattle.std.proofs.lemmas.List.Elements.{All-cons, All-head, All-nil, All-tail, All-weaker}
use Rattle.x12_bytes.specs.declared.delims.Delims.{Delims}
use Rattle.x12_segs.specs.Words.{element_of}
use Rattle.x12_write.specs.Undivided.{CanDivide, IsUndivided}
use Rattle.x12_write.proofs.ForAbove.{plain-undivided}
use Rattle.guide_tree.specs.declared.element.Component.{Component}
use Rattle.guide_tree.specs.declared.element.Element.{Element}
use Rattle.guide_tree.specs.declared.rows.GuideRows.{GuideRows}
use Rattle.guide_tree.specs.Words.{EachIn, EachNode, Tree, Trees, loop, no_trees, segment, tree}
use Rattle.guide_tree.specs.View as view
use Rattle.elem_rules.specs.Rows.{component_reference, components_of, element_reference}
use Rattle.env_index.specs.Words.{IndexEntry, settled, GroupEntry}
use Rattle.env_index.specs.declared.entry.SetEnvelope.{SetEnvelope}
use Rattle.answered_sets.specs.Judged.{responded_groups}
use Rattle.partner_setup.specs.declared.partner.Partner.{Partner}
use Rattle.partner_setup.specs.Names.{and_some, those_at}
use Rattle.partner_setup.specs.Setup.{SetupValue, guide_for_set, guides_of, is_for_set, places_of}
use Rattle.partner_setup.specs.Sound.{IsSoundPartner, IsSoundSetup}
use Rattle.set_check.specs.Checked.{guide_tree_of}
use Rattle.set_answers.specs.Answers.{SentValue}
use Rattle.set_answers.specs.CheckedText.{sent_by}
use Rattle.set_answers.specs.Settled.{settled_faults}
use Rattle.night_law.specs.Quotable.{AreAllQuotable, AreQuotable, IsGroupQuotable, IsGuidePlain, IsGuideQuotable, IsNodePlain}
use Rattle.night_law.specs.Quotable.{IsNodeQuotable}
use Rattle.night_law.specs.Quotable.{IsPlainReference, IsRowPlain, IsRowQuotable}
use Rattle.night_law.specs.Told.{groups_told, is_told_to}
use Rattle.night_law.proofs.Headers.{at_index}

-- what is so of everything is so of each item
pub everywhere : {A : Type 0} (P : A → Type 0) → ((x : A) → P x) → (xs : List A) → All P xs
everywhere P is [] = All-nil P
everywhere P is (x ∷ xs) = All-cons P x xs (is x) (everywhere P is xs)

-- what is so of each item is so of those at some places, and of one that is found
module _ {A : Type 0} (P : A → Type 0) where
  at_places : (xs : List A) → All P xs → (places : List ℕ) → All P (those_at xs places)
  at_places xs all [] = All-nil P
  at_places xs all (n ∷ places) = by (at_places xs all places) (slice_get xs n) refl
    where
      by : All P (those_at xs places) → (o : Option A) → slice_get xs n ≡ o → All P (and_some o (those_at xs places))
      by rest None is = rest
      by rest (Some x) is = All-cons P x (those_at xs places) (at_index P xs n x is all) rest

  found_one : (test : A → Bool) (xs : List A) → All P xs → IfSome (find test xs) P
  found_one test [] all = tt
  found_one test (x ∷ xs) all = by (found_one test xs (All-tail P x xs all)) (test x)
    where
      by : IfSome (find test xs) P → (b : Bool) → IfSome (cond b (Some x) (find test xs)) P
      by rest true = All-head P x xs all
      by rest false = rest

module _ (d : Delims) (can : CanDivide d) where
  component_quoted : (c : Component) → IsPlainReference (component_reference c) → IsUndivided d (component_reference c)
  component_quoted c plain = plain-undivided d can (component_reference c) plain

  row_quoted : (row : Element) → IsRowPlain row → IsRowQuotable d row
  row_quoted row plain = (
    plain-undivided d can (element_reference row) plain.0,
    All-weaker (λ c. IsPlainReference (component_reference c)) (λ c. IsUndivided d (component_reference c)) component_quoted
        (components_of row) plain.1,
  )

  mutual
    node_quoted : (t : Tree) → EachIn IsNodePlain t → EachIn (IsNodeQuotable d) t
    node_quoted (segment s) plain = All-weaker IsRowPlain (IsRowQuotable d) row_quoted s.elements plain
    node_quoted (loop l ts) plain = (tt, nodes_quoted ts plain.1)

    nodes_quoted : (ts : Trees) → EachNode IsNodePlain ts → EachNode (IsNodeQuotable d) ts
    nodes_quoted no_trees plain = tt
    nodes_quoted (tree t ts) plain = (node_quoted t plain.0, nodes_quoted ts plain.1)

  guide_quoted : (o : Option GuideRows) → IfSome o IsGuidePlain → IfSome (guide_tree_of o) (IsGuideQuotable d)
  guide_quoted None plain = tt
  guide_quoted (Some g) plain = nodes_quoted (view.guide_of g).nodes plain

  module _ (setup : SetupValue) (plain : All IsGuidePlain setup.guides) where
    found_quoted : (sender : ℕ) (group version set : List ℕ)
        → IfSome (guide_tree_of (guide_for_set setup sender group version set)) (IsGuideQuotable d)
    found_quoted sender group version set =
        guide_quoted (guide_for_set setup sender group version set)
        (found_one IsGuidePlain (is_for_set group version set) (guides_of setup sender)
        (at_places IsGuidePlain setup.guides plain (places_of setup sender)))

    group_quoted : (text : List ℕ) (place : ℕ) (e : IndexEntry) (group : GroupEntry)
        → IsGroupQuotable d (sent_by text setup place e) group
    group_quoted text place e group =
        everywhere (λ (set : SetEnvelope). IfSome
        (guide_tree_of (guide_for_set setup place (element_of group.header 1) (element_of group.header 8) (element_of set.header 1)))
        (IsGuideQuotable d)) (λ set. found_quoted place (element_of group.header 1) (element_of group.header 8) (element_of set.header 1))
        group.sets

all_quoted : (text : List ℕ) (setup : SetupValue) (place : ℕ) (p : Partner) (entries : List IndexEntry) → CanDivide p.delims
    → All IsGuidePlain setup.guides → AreQuotable text setup place p entries
all_quoted text setup place p entries can plain =
    let sent : IndexEntry → SentValue = sent_by text setup place in
    let groups : IndexEntry → List GroupEntry = λ e. responded_groups (groups_told e) in
    everywhere (λ (e : IndexEntry). All (IsGroupQuotable p.delims (sent e)) (groups e))
    (λ e. everywhere (IsGroupQuotable p.delims (sent e)) (group_quoted p.delims can setup plain text place e) (groups e))
    (filter (is_told_to setup place) entries)

pub plain_quoted : (text : List ℕ) (setup : SetupValue) → IsSoundSetup setup → All IsGuidePlain setup.guides → AreAllQuotable text setup
plain_quoted text setup sound plain index place partner read at_place =
    all_quoted text setup place partner (settled index (settled_faults setup index.entries)).entries
    (at_index (IsSoundPartner (length setup.guides)) setup.partners place partner at_place sound.partners).divides plain
