-- The guide file (own): the text of a data element's row, in the words of X12.6 (requirement designator, data
-- element types, lengths).
use Rattle.std.specs.Prelude.{ℕ, ◌-◌, ◌==◌, List, [], ◌∷◌, codes, Option, Some, None, Bool, true, false, ◌&&◌, take}
use Rattle.std.specs.Prelude.{drop, if◌then◌else◌, option_map}
use Rattle.std.specs.List.{list_all, prefix_len, position_or_len}
use Rattle.std.specs.Str.{bytes_eq}
use Rattle.std.specs.Char.{is_ascii_digit}
use Rattle.hub_kinds.specs.Words.{is_number}
use Rattle.guide_tree.specs.declared.element.ElementType.{ElementType}
use Rattle.guide_tree.specs.declared.element.ElementType.TheVariants as types
use Rattle.guide_tree.specs.declared.element.Requirement.{Requirement}
use Rattle.guide_tree.specs.declared.element.Requirement.TheVariants as requirement
use Rattle.guide_tree.specs.declared.element.CodeList.{CodeList}
use Rattle.guide_tree.specs.declared.element.SimpleRow.{SimpleRow}
use Rattle.guide_tree.specs.declared.element.Component.{Component}
use Rattle.guide_tree.specs.declared.element.Component.TheVariants as component
use Rattle.guide_tree.specs.declared.element.Element.{Element}
use Rattle.guide_tree.specs.declared.element.Element.TheVariants as element
use Rattle.guide_toml.specs.declared.element_text.Measure.{Measure}
use Rattle.toml_keys.specs.Reads.{◌>>=◌}
use Rattle.guide_toml.specs.Tokens.{tokens_of, token_groups, is_code, is_semicolon}
use Rattle.guide_toml.specs.Counts.{count_of}

abbrev pub Tokens : Type 0
Tokens = List (List ℕ)

-- the first token, and those after it
abbrev pub next_token : Tokens → Option (List ℕ × Tokens)
next_token [] = None
next_token (t ∷ ts) = Some (t, ts)

-- a reading of a token, and the tokens after it
abbrev pub with_rest : {A : Type 0} → Option A → Tokens → Option (A × Tokens)
with_rest o rest = option_map (λ x. (x, rest)) o

-- 1 to 4 digits, or `-` for none
abbrev pub reference_of : List ℕ → Option (List ℕ)
reference_of t = if bytes_eq t (codes "-") then Some [] else (if is_number 4 t then Some t else None)

abbrev pub requirement_of : List ℕ → Option Requirement
requirement_of t =
    if bytes_eq t (codes "M") then Some requirement.Mandatory
    else (if bytes_eq t (codes "O") then Some requirement.Optional
    else None)

-- `N0` to `N9`
abbrev pub number_type_of : List ℕ → Option ElementType
number_type_of (n ∷ d ∷ []) = if (n == 78) && is_ascii_digit d then Some (types.Number (d - 48)) else None
number_type_of _ = None

abbrev pub type_of : List ℕ → Option ElementType
type_of t =
    if bytes_eq t (codes "AN") then Some types.Text
    else (if bytes_eq t (codes "ID") then Some types.Identifier
    else (if bytes_eq t (codes "R") then Some types.Decimal
    else (if bytes_eq t (codes "DT") then Some types.Date
    else (if bytes_eq t (codes "TM") then Some types.Time
    else number_type_of t))))

-- `x` and a number
abbrev pub repeat_of : List ℕ → Option ℕ
repeat_of [] = None
repeat_of (x ∷ digits) = if x == 120 then count_of digits else None

-- how often an element may occur: 1 where it isn't said
abbrev pub repeat_or_once : Option ℕ → List ℕ → Tokens → ℕ × Tokens
repeat_or_once None t ts = (1, t ∷ ts)
repeat_or_once (Some n) t ts = (n, ts)

abbrev pub take_repeat : Tokens → ℕ × Tokens
take_repeat [] = (1, [])
take_repeat (t ∷ ts) = repeat_or_once (repeat_of t) t ts

abbrev pub take_wide : Tokens → Bool × Tokens
take_wide [] = (false, [])
take_wide (t ∷ ts) = if bytes_eq t (codes "wide") then (true, ts) else (false, t ∷ ts)

-- the codes that aren't used, after those that are
abbrev pub unused_codes : Tokens → Tokens → Option CodeList
unused_codes used [] = Some (record { used = used; unused = None })
unused_codes used (t ∷ ts) = if bytes_eq t (codes "!") && list_all is_code ts then Some (record { used = used; unused = Some ts }) else None

abbrev pub code_list : Tokens → Option CodeList
code_list ts = unused_codes (take (prefix_len is_code ts) ts) (drop (prefix_len is_code ts) ts)

-- `= CODES`, and after them `! CODES`; or nothing
abbrev pub codes_of : Tokens → Option (Option CodeList)
codes_of [] = Some None
codes_of (t ∷ ts) = if bytes_eq t (codes "=") then option_map Some (code_list ts) else None

-- type, minimum and maximum
unfoldable pub measure_of : Tokens → Option (Measure × Tokens)
measure_of ts = do
  t ← next_token ts
  data_type ← type_of t.0
  a ← next_token t.1
  least ← count_of a.0
  b ← next_token a.1
  most ← count_of b.0
  Some (record { data_type = data_type; min = least; max = most }, b.1)

-- `wide` and the codes
abbrev pub row_of_tokens : List ℕ → Requirement → Measure → Tokens → Option SimpleRow
row_of_tokens reference req m ts = option_map (λ c. record {
  reference = reference;
  requirement = req;
  data_type = m.data_type;
  min = m.min;
  max = m.max;
  wide = (take_wide ts).0;
  codes = c;
}) (codes_of (take_wide ts).1)

abbrev pub no_more : {A : Type 0} → A → Tokens → Option A
no_more x [] = Some x
no_more x (t ∷ ts) = None

unfoldable pub used_component : List ℕ → List ℕ → Tokens → Option Component
used_component reference word ts = do
  req ← requirement_of word
  m ← measure_of ts
  row ← row_of_tokens reference req m.0 m.1
  Some (component.Simple row)

unfoldable pub component_of : Tokens → Option Component
component_of ts = do
  r ← next_token ts
  reference ← reference_of r.0
  u ← next_token r.1
  if bytes_eq u.0 (codes "N") then no_more (component.NotUsed reference) u.1 else used_component reference u.0 u.1

abbrev pub components_of_tokens : List Tokens → Option (List Component)
components_of_tokens [] = Some []
components_of_tokens (g ∷ gs) = component_of g >>= λ c. option_map (λ cs. c ∷ cs) (components_of_tokens gs)

-- a component between each two semicolons, where there is one
abbrev pub components_behind : Option Tokens → Option (List Component)
components_behind None = Some []
components_behind (Some ts) = components_of_tokens (token_groups ts)

unfoldable pub simple_of : List ℕ → Requirement → Tokens → Option Element
simple_of reference req ts = do
  m ← measure_of ts
  row ← row_of_tokens reference req m.0 (take_repeat m.1).1
  Some (element.Simple row (take_repeat m.1).0)

unfoldable pub composite_of : List ℕ → Requirement → Tokens → Option Tokens → Option Element
composite_of reference req ts behind = do
  count ← no_more (take_repeat ts).0 (take_repeat ts).1
  components ← components_behind behind
  Some (element.Composite (record { reference = reference; requirement = req; repeat = count; components = components }))

-- only a composite has something after a semicolon
abbrev pub alone : Option Tokens → Option Element → Option Element
alone None o = o
alone (Some ts) o = None

unfoldable pub used_element : List ℕ → List ℕ → Tokens → Option Tokens → Option Element
used_element reference word ts behind = do
  req ← requirement_of word
  t ← next_token ts
  if bytes_eq t.0 (codes "C") then composite_of reference req t.1 behind else alone behind (simple_of reference req ts)

-- the row, from what is before the first semicolon and what is after it
unfoldable pub element_in : Tokens → Option Tokens → Option Element
element_in head behind = do
  r ← next_token head
  reference ← reference_of r.0
  u ← next_token r.1
  if bytes_eq u.0 (codes "N") then alone behind (no_more (element.NotUsed reference) u.1) else used_element reference u.0 u.1 behind

-- what is after the first semicolon
abbrev pub behind_first : Tokens → Option Tokens
behind_first [] = None
behind_first (semicolon ∷ ts) = Some ts

abbrev pub element_of_tokens : Tokens → Option Element
element_of_tokens ts = element_in (take (position_or_len is_semicolon ts) ts) (behind_first (drop (position_or_len is_semicolon ts) ts))

-- the row that a text writes
abbrev pub element_of_text : List ℕ → Option Element
element_of_text text = element_of_tokens (tokens_of text)
