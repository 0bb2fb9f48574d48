-- own: sample files of a guide: a text with one set that meets the guide, and texts whose set has one fault.
use Rattle.std.specs.Prelude.{◌≡◌, ◌≢◌, false, ℕ, List, [], ◌∷◌, Some, flat_map, option_map}
use Rattle.std.specs.List.{slice_get}
use Rattle.x12_bytes.specs.declared.delims.Delims.{Delims}
use Rattle.guide_tree.specs.Tree.{GuideTree}
use Rattle.guide_tree.specs.declared.rows.GuideRows.{GuideRows}
use Rattle.hub_kinds.specs.declared.fault.Fault.{Fault}
use Rattle.night_definition.specs.Acknowledgments.{set_segments, written}
use Rattle.night_definition.specs.Answers.{Answer}
use Rattle.night_definition.specs.Envelopes.{Set, Group}
use Rattle.night_definition.specs.Interchanges.{Interchange, text_of}
use Rattle.night_definition.specs.Sets.{MeetsAlone, faults_by, faults_of, set_codes, verdict_on}
use Rattle.guide_samples.specs.declared.rule.Rule.{Rule}

-- a text has one interchange with these delimiters, which has one group, which has one set
pub record HasOneSet (text : List ℕ) (d : Delims) (set : Set) : Type 0 where
  pub interchange : Interchange
  pub group : Group
  pub interchanges : (text_of text).interchanges ≡ interchange ∷ []
  pub delims : interchange.delims ≡ d
  pub groups : interchange.content.groups ≡ group ∷ []
  pub sets : group.sets ≡ set ∷ []

-- a text has one set, and this set meets the guide
pub record IsSample (guide : GuideTree) (text : List ℕ) : Type 0 where
  pub delims : Delims
  pub set : Set
  pub only : HasOneSet text delims set
  pub meets : MeetsAlone (Some guide) delims set

-- a fault breaks a rule
pub record IsFaultOf (rule : Rule) (f : Fault) : Type 0 where
  pub code : f.code ≡ rule.code
  pub slot : f.slot ≡ rule.slot
  pub element : option_map (λ e. e.code) f.elem ≡ rule.element

-- the answer to a set by the guide, if no earlier set of its group has its number
abbrev pub answer_by : GuideTree → Delims → Set → Answer
answer_by guide d set =
    let faults = faults_of (Some guide) d set in
    let codes = set_codes (Some guide) d set faults false in
    record { set = set; faults = faults; codes = codes; verdict = verdict_on (Some guide) faults codes }

-- what a 999 says of the set: AK2, IK3 and IK4, IK5
abbrev pub lines_by : GuideTree → Delims → Set → List ℕ
lines_by guide d set = flat_map (written d) (set_segments d (answer_by guide d set))

-- a text has one set, which by the guide has one fault, and this is such a one; the lines are what a 999 says of the set
pub record HasOneFault (guide : GuideTree) (IsSuch : Fault → Type 0) (text lines : List ℕ) : Type 0 where
  pub delims : Delims
  pub set : Set
  pub only : HasOneSet text delims set
  pub fault : Fault
  pub alone : faults_by guide delims set ≡ fault ∷ []
  pub such : IsSuch fault
  pub said : lines ≡ lines_by guide delims set

-- a guide, and the rules of it that are tried
pub record Tried : Type 0 where
  pub guide : GuideRows
  pub rules : List Rule

-- a text breaks the rule with a number, from 0, and gives these lines of the 999
pub record BreaksRule (guide : GuideTree) (rules : List Rule) (number : ℕ) (text lines : List ℕ) : Type 0 where
  pub rule : Rule
  pub there : slice_get rules number ≡ Some rule
  pub fault : HasOneFault guide (IsFaultOf rule) text lines

-- a sample is known
abbrev pub IsKnown : GuideTree → Type 0
IsKnown guide = (text : List ℕ) × IsSample guide text

-- rules are tried only if a sample is known
abbrev pub IsSampled : GuideTree → List Rule → Type 0
IsSampled guide rules = rules ≢ [] → IsKnown guide
