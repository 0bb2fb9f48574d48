-- Own: a row as few numbers, by which most values without fault are seen to be so. Where nothing is said of a value, the row is asked.
use Rattle.std.specs.Prelude.{ℕ, ◌≡◌, ◌<◌, ◌^◌, ◌%◌, ◌||◌, bit_and, ◌+◌, ◌*◌, ◌==◌, ◌&&◌, nat_le, nat_lt, not, if◌then◌else◌, List, []}
use Rattle.std.specs.Prelude.{◌∷◌, ◌++◌, length, take, drop}
use Rattle.std.specs.Prelude.{Bool, false, Some, None, IsTrue}
use Rattle.std.specs.List.{All, list_any, list_all, count_by}
use Rattle.std.specs.Char.{is_ascii_digit}
use Rattle.guide_tree.specs.declared.element.ElementType.{ElementType}
use Rattle.guide_tree.specs.declared.element.ElementType.TheVariants.{Text, Identifier, Number, Decimal, Date, Time}
use Rattle.guide_tree.specs.declared.element.SimpleRow.{SimpleRow}
use Rattle.moment.specs.Calendar.{is_date, is_time}
use Rattle.elem_rules.specs.declared.flat_row.FlatKind.{FlatKind}
use Rattle.elem_rules.specs.declared.flat_row.FlatKind.TheVariants as kind
use Rattle.elem_rules.specs.declared.flat_row.FlatRow.{FlatRow}
use Rattle.std.specs.Int.{trailing_zeros, w64}
use Rattle.guide_tree.specs.declared.slot.Condition.{Condition}
use Rattle.guide_tree.specs.declared.slot.Relation.{Relation}
use Rattle.guide_tree.specs.declared.slot.Relation.TheVariants as relation
use Rattle.elem_rules.specs.declared.flat_condition.FlatCondition.{FlatCondition}
use Rattle.elem_rules.specs.declared.flat_slot.FlatSlot.{FlatSlot}
use Rattle.guide_tree.specs.declared.element.Element.{Element}
use Rattle.guide_tree.specs.declared.slot.Slot.{Slot}
use Rattle.elem_rules.specs.Rows.{nth}
use Rattle.elem_rules.specs.Clean.{is_strange, is_set, holds, has_bytes, fits, fits_empty}
use Rattle.elem_rules.specs.Values.{is_whole, is_decimal, value_fault}

abbrev pub are_bytes : (a b c : ℕ) → Bool
are_bytes a b c = nat_lt a 256 && (nat_lt b 256 && nat_lt c 256)

-- the length above the bytes, the first byte lowest
abbrev pub joined : (length a b c : ℕ) → ℕ
joined length a b c = 16777216 * length + (65536 * c + (256 * b + a))

abbrev pub packed : (length a b c : ℕ) → ℕ
packed length a b c = if are_bytes a b c then joined length a b c else 0

-- the number of a code of one to three bytes, which no other text has; of any other text 0
abbrev pub code_number : List ℕ → ℕ
code_number [] = 0
code_number (a ∷ []) = packed 1 a 0 0
code_number (a ∷ b ∷ []) = packed 2 a b 0
code_number (a ∷ b ∷ c ∷ []) = packed 3 a b c
code_number (a ∷ b ∷ c ∷ d ∷ rest) = 0

-- a length that the row allows
abbrev pub is_length : FlatRow → ℕ → Bool
is_length row n = nat_le row.least n && nat_le n (row.least + row.span)

-- a text has a number that is among the row's in a table of numbers
abbrev pub is_listed : FlatRow → (numbers : List ℕ) → (text : List ℕ) → Bool
is_listed row numbers text =
    not (code_number text == 0) && list_any (λ n. n == code_number text) (take row.count (drop row.from numbers))

abbrev pub is_sure_by : FlatKind → FlatRow → (numbers : List ℕ) → (text : List ℕ) → Bool
is_sure_by kind.Any row numbers text = is_length row (length text)
is_sure_by kind.Listed row numbers text = is_length row (length text) && is_listed row numbers text
is_sure_by kind.Whole row numbers text = is_length row (length text) && is_whole text
is_sure_by kind.Decimal row numbers text = is_decimal text && is_length row (count_by is_ascii_digit text)
is_sure_by kind.Date row numbers text = is_length row (length text) && is_date text
is_sure_by kind.Time row numbers text = is_length row (length text) && is_time text
is_sure_by kind.Unsure row numbers text = false

abbrev pub is_sure : FlatRow → (numbers : List ℕ) → (text : List ℕ) → Bool
is_sure row numbers text = is_sure_by row.kind row numbers text

-- the kind of a row without codes
abbrev pub kind_of : ElementType → FlatKind
kind_of Text = kind.Any
kind_of Identifier = kind.Any
kind_of (Number places) = kind.Whole
kind_of Decimal = kind.Decimal
kind_of Date = kind.Date
kind_of Time = kind.Time

-- a value of characters from space to tilde of which the flat row is sure has no fault by the row, however the table grows
abbrev pub IsFlatOf : FlatRow → (numbers : List ℕ) → SimpleRow → Type 0
IsFlatOf flat numbers row = (more text : List ℕ) → list_any is_strange text ≡ false → IsTrue (is_sure flat (numbers ++ more) text)
    → value_fault row text ≡ None

-- no more than one bit is set
abbrev pub is_single : ℕ → Bool
is_single x = (x == 0) || (x == 1 * 2 ^ trailing_zeros w64 x % 2 ^ 64)

-- a condition holds, by the bits of the elements that are filled and by masks of the positions that it lists
abbrev pub holds_by : Relation → (first rest bits : ℕ) → Bool
holds_by relation.Paired first rest bits = (bit_and bits rest == 0) || (bit_and bits rest == rest)
holds_by relation.Required first rest bits = not (bit_and bits rest == 0)
holds_by relation.Exclusion first rest bits = is_single (bit_and bits rest)
holds_by relation.Conditional first rest bits = (bit_and bits first == 0) || (bit_and bits rest == rest)
holds_by relation.ListConditional first rest bits = (bit_and bits first == 0) || not (bit_and bits rest == 0)

abbrev pub IsFlatCondition : FlatCondition → Condition → Type 0
IsFlatCondition flat c = (bits : ℕ) → bits < 2 ^ 64 → IsTrue (holds_by flat.relation flat.first flat.rest bits)
    → IsTrue (holds (is_set bits) c.relation c.positions)

-- a value of which the flat row is sure fits the row
abbrev pub IsFlatElement : FlatRow → (numbers : List ℕ) → Element → Type 0
IsFlatElement flat numbers row = (text : List ℕ) → list_any is_strange text ≡ false → IsTrue (has_bytes text)
    → IsTrue (is_sure flat numbers text) → IsTrue (fits row text)

-- a table has grown
abbrev pub IsGrown : (old new : List ℕ) → Type 0
IsGrown old new = (more : List ℕ) × (new ≡ old ++ more)

-- items of the same number belong together
abbrev pub ArePairs : {X Y : Type 0} → (X → Y → Type 0) → List X → List Y → Type 0
ArePairs R xs ys = (k : ℕ) (x : _) (y : _) → nth xs k ≡ Some x → nth ys k ≡ Some y → R x y

-- where all masks say so, all conditions hold
abbrev pub AreFlatConditions : List FlatCondition → List Condition → Type 0
AreFlatConditions flat conditions = (bits : ℕ) → bits < 2 ^ 64 → IsTrue (list_all (λ c. holds_by c.relation c.first c.rest bits) flat)
    → All (λ c. IsTrue (holds (is_set bits) c.relation c.positions)) conditions

-- flat rows, conditions and the bits of mandatory rows are those of a slot
pub record IsFlatSlot (flat : FlatSlot) (slot : Slot) : Type 0 where
  pub many : length flat.rows.items ≡ length slot.elements
  pub each : ArePairs (λ f row. IsFlatElement f flat.numbers.items row) flat.rows.items slot.elements
  pub held : AreFlatConditions flat.conditions.items slot.conditions
  pub needed : (k : ℕ) (row : Element) → nth slot.elements k ≡ Some row → is_set flat.must k ≡ false → IsTrue (fits_empty row)
