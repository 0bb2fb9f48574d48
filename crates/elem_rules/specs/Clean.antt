-- Own: what a quick look at a segment without component and repetition separators asks for.
use Rattle.std.specs.Prelude.{ℕ, zero, suc, ◌*◌, ◌%◌, ◌^◌, ◌==◌, ◌&&◌, nat_lt, bit_or, if◌then◌else◌, List, [], ◌∷◌, take, drop, Bool, true}
use Rattle.std.specs.Prelude.{false, not, ◌||◌, nat_le, length, is_none, Option, Some, None}
use Rattle.std.specs.List.{list_any, list_all, filter}
use Rattle.std.specs.Int.{bit_at}
use Rattle.guide_tree.specs.declared.element.Requirement.{Requirement}
use Rattle.guide_tree.specs.declared.element.Requirement.TheVariants.{Mandatory, Optional}
use Rattle.guide_tree.specs.declared.element.CodeList.{CodeList}
use Rattle.guide_tree.specs.declared.element.ElementType.{ElementType}
use Rattle.guide_tree.specs.declared.element.ElementType.TheVariants.{Text, Identifier, Number, Decimal, Date, Time}
use Rattle.guide_tree.specs.declared.element.SimpleRow.{SimpleRow}
use Rattle.guide_tree.specs.declared.element.Element.{Element}
use Rattle.guide_tree.specs.declared.element.Element.TheVariants as element
use Rattle.guide_tree.specs.declared.slot.Relation.{Relation}
use Rattle.guide_tree.specs.declared.slot.Relation.TheVariants.{Paired, Required, Exclusion, Conditional, ListConditional}
use Rattle.hub_kinds.specs.Words.{contains_text}
use Rattle.x12_bytes.specs.declared.delims.Delims.{Delims}
use Rattle.elem_rules.specs.Divided.{is_inner_separator}
use Rattle.elem_rules.specs.Values.{is_character, is_whole, value_fault}
use Rattle.moment.specs.Calendar.{is_date, is_time}

-- no character from space to tilde
abbrev pub is_strange : ℕ → Bool
is_strange byte = not (is_character false byte)

-- one of two separators, or no character from space to tilde
abbrev pub is_odd_by : (component separator : ℕ) → ℕ → Bool
is_odd_by component separator byte = (byte == component || byte == separator) || is_strange byte

-- a component or repetition separator, or no character from space to tilde
abbrev pub is_odd : Delims → ℕ → Bool
is_odd delims byte = is_inner_separator delims byte || is_strange byte

abbrev pub is_optional : Requirement → Bool
is_optional Mandatory = false
is_optional Optional = true

-- a value of characters from space to tilde has the form of its type; of numbers with a sign or a point this isn't said
abbrev pub has_plain_form : ElementType → List ℕ → Bool
has_plain_form Text text = true
has_plain_form Identifier text = true
has_plain_form (Number places) text = is_whole text
has_plain_form Decimal text = is_whole text
has_plain_form Date text = is_date text
has_plain_form Time text = is_time text

-- a value is one of the used codes of its row, where it has codes
abbrev pub has_used_code : Option CodeList → List ℕ → Bool
has_used_code None text = true
has_used_code (Some listed) text = contains_text listed.used text

-- such a value of a length that its row allows, and of its codes
abbrev pub is_plain_value : SimpleRow → List ℕ → Bool
is_plain_value row text =
    nat_le row.min (length text) && nat_le (length text) row.max && has_used_code row.codes text && has_plain_form row.data_type text

-- an element may be empty
abbrev pub fits_empty : Element → Bool
fits_empty (element.NotUsed reference) = true
fits_empty (element.Simple row repeat) = is_optional row.requirement
fits_empty (element.Composite row) = is_optional row.requirement

-- an element may have this value; of composite elements this isn't said
abbrev pub fits_value : Element → List ℕ → Bool
fits_value (element.NotUsed reference) text = false
fits_value (element.Simple row repeat) text = is_none (value_fault row text)
fits_value (element.Composite row) text = false

-- an element without inner separators fits its row
abbrev pub fits : Element → List ℕ → Bool
fits row [] = fits_empty row
fits row (byte ∷ bytes) = fits_value row (byte ∷ bytes)

-- a relational condition holds
abbrev pub holds : (ℕ → Bool) → Relation → List ℕ → Bool
holds present Paired positions = not (list_any present positions) || list_all present positions
holds present Required positions = list_any present positions
holds present Exclusion positions = nat_le (length (filter present positions)) 1
holds present Conditional positions = not (list_any present (take 1 positions)) || list_all present (drop 1 positions)
holds present ListConditional positions = not (list_any present (take 1 positions)) || list_any present (drop 1 positions)

-- the bit of a position is set
abbrev pub is_set : ℕ → ℕ → Bool
is_set bits position = nat_lt position 64 && (bit_at bits position == 1)

-- with the bit of a position set, where it is to be
abbrev pub marked : ℕ → ℕ → Bool → ℕ
marked bits position present = if present then bit_or bits (1 * 2 ^ position % 2 ^ 64) else bits

-- the bits of the positions from 1 to n that pass a test
abbrev pub bits_to : (ℕ → Bool) → ℕ → ℕ
bits_to present zero = 0
bits_to present (suc n) = marked (bits_to present n) (suc n) (present (suc n))

abbrev pub has_bytes : List ℕ → Bool
has_bytes [] = false
has_bytes (byte ∷ bytes) = true
