-- Own: the positions at which relational conditions are broken, as bits, and the faults there. No public clause cites these.
use Rattle.std.specs.Prelude.{ℕ, IsTrue, List, [], length, Bool, if◌then◌else◌}
use Rattle.std.specs.List.{Contains}
use Rattle.guide_tree.specs.declared.element.Element.{Element}
use Rattle.guide_tree.specs.declared.slot.Condition.{Condition}
use Rattle.guide_tree.specs.declared.slot.Relation.{Relation}
use Rattle.guide_tree.specs.declared.slot.Relation.TheVariants.{Paired, Required, Exclusion, Conditional, ListConditional}
use Rattle.hub_kinds.specs.declared.codes.ElementCode.{ElementCode}
use Rattle.hub_kinds.specs.declared.fault.ElemFault.{ElemFault}
use Rattle.elem_rules.specs.Conditions.{broken_at}
use Rattle.elem_rules.specs.Clean.{is_set}
use Rattle.elem_rules.specs.Found.{up_to, broken_found}

-- the bits that are set are those of the listed positions
abbrev pub AreBits : ℕ → List ℕ → Type 0
AreBits bits listed = (p : ℕ) → (IsTrue (is_set bits p) → Contains listed p) × (Contains listed p → IsTrue (is_set bits p))

-- the positions at which an element is missing: all but an exclusion's
abbrev pub missing_in : Relation → List ℕ → List ℕ
missing_in Paired positions = positions
missing_in Required positions = positions
missing_in Exclusion positions = []
missing_in Conditional positions = positions
missing_in ListConditional positions = positions

-- the positions at which an element is too much: an exclusion's
abbrev pub excluded_in : Relation → List ℕ → List ℕ
excluded_in Paired positions = []
excluded_in Required positions = []
excluded_in Exclusion positions = positions
excluded_in Conditional positions = []
excluded_in ListConditional positions = []

abbrev pub missing_at : (ℕ → Bool) → Condition → List ℕ
missing_at present c = missing_in c.relation (broken_at present c.relation c.positions)

abbrev pub excluded_at : (ℕ → Bool) → Condition → List ℕ
excluded_at present c = excluded_in c.relation (broken_at present c.relation c.positions)

-- a fault at each row whose bit is set
abbrev pub marked_found : List Element → List (List ℕ) → ElementCode → (bits : ℕ) → List ElemFault
marked_found rows texts code bits = up_to (λ k. if is_set bits k then broken_found rows texts code k else []) (length rows)
