-- The guide file (own): where a text stops to be that of a data element's row: the first token that can't be there, and what has to.
use Rattle.std.specs.Prelude.{◌≡◌, ℕ, ◌+◌, List, [], ◌∷◌, codes, Option, Some, None, Result, Ok, Err, Bool, true, false, ◌||◌, take, drop}
use Rattle.std.specs.Prelude.{if◌then◌else◌, is_some}
use Rattle.std.specs.List.{prefix_len, position_or_len}
use Rattle.std.specs.Str.{bytes_eq}
use Rattle.guide_toml.specs.declared.stops.ElementStop.{ElementStop}
use Rattle.guide_toml.specs.declared.stops.Halt.{Halt}
use Rattle.guide_toml.specs.declared.stops.Wanted.{Wanted}
use Rattle.guide_toml.specs.declared.stops.Wanted.TheVariants as wanted
use Rattle.guide_toml.specs.Tokens.{tokens_of, token_groups, is_code, is_semicolon}
use Rattle.guide_toml.specs.Counts.{count_of}
use Rattle.guide_toml.specs.ElementTexts.{Tokens, reference_of, requirement_of, take_repeat, take_wide, type_of}

-- one reading, and then another of what it left
infixl 10 ◌>>=◌
abbrev pub ◌>>=◌ : {A B : Type 0} → Result A Halt → (A → Result B Halt) → Result B Halt
(Ok x) >>= f = f x
(Err h) >>= f = Err h

-- what was returned, seen by view, is what reading gives
abbrev pub Gives : {X Y : Type 0} → (X → Y) → Result X Halt → Result Y Halt → Type 0
Gives view (Ok x) read = read ≡ Ok (view x)
Gives view (Err h) read = read ≡ Err h

abbrev pub is_token : List ℕ → Tokens → Bool
is_token word [] = false
is_token word (t ∷ ts) = bytes_eq t word

-- whether a token may be where something is wanted
abbrev pub is_wanted : Wanted → List ℕ → Bool
is_wanted wanted.Reference t = is_some (reference_of t)
is_wanted wanted.Requirement t = bytes_eq t (codes "N") || is_some (requirement_of t)
is_wanted wanted.ElementType t = is_some (type_of t)
is_wanted wanted.ComponentType t = is_some (type_of t)
is_wanted wanted.Shortest t = is_some (count_of t)
is_wanted wanted.Longest t = is_some (count_of t)
is_wanted wanted.Options t = bytes_eq t (codes "=")
is_wanted wanted.Code t = bytes_eq t (codes "!")
is_wanted wanted.UnusedCode t = is_code t
is_wanted wanted.Components t = is_semicolon t
is_wanted wanted.End t = false

abbrev pub halt : Tokens → Wanted → Halt
halt [] w = record { token = None; wanted = w }
halt (t ∷ ts) w = record { token = Some t; wanted = w }

-- the tokens after one that must be there
abbrev pub expected : Wanted → Tokens → Result Tokens Halt
expected w [] = Err (halt [] w)
expected w (t ∷ ts) = if is_wanted w t then Ok ts else Err (halt (t ∷ ts) w)

-- nothing more may be
abbrev pub at_end : Wanted → Tokens → Result Tokens Halt
at_end w [] = Ok []
at_end w (t ∷ ts) = Err (halt (t ∷ ts) w)

abbrev pub behind_codes : Tokens → Tokens
behind_codes ts = drop (prefix_len is_code ts) ts

-- `!` and codes, or nothing
abbrev pub unused_read : Tokens → Result Tokens Halt
unused_read [] = Ok []
unused_read (t ∷ ts) = expected wanted.Code (t ∷ ts) >>= λ us. at_end wanted.UnusedCode (behind_codes us)

-- `=` and codes, and what is after them; or nothing
abbrev pub codes_read : Tokens → Result Tokens Halt
codes_read [] = Ok []
codes_read (t ∷ ts) = expected wanted.Options (t ∷ ts) >>= λ us. unused_read (behind_codes us)

-- `wide` and the codes
abbrev pub row_read : Tokens → Result Tokens Halt
row_read ts = codes_read (take_wide ts).1

-- type, minimum and maximum
abbrev pub measure_read : Wanted → Tokens → Result Tokens Halt
measure_read kind ts = expected kind ts >>= λ a. expected wanted.Shortest a >>= λ b. expected wanted.Longest b

-- what is after a component's requirement
abbrev pub behind_component : (is_unused : Bool) → Tokens → Result Tokens Halt
behind_component true ts = at_end wanted.End ts
behind_component false ts = measure_read wanted.ComponentType ts >>= row_read

abbrev pub component_read : Tokens → Result Tokens Halt
component_read ts =
    expected wanted.Reference ts >>= λ r. expected wanted.Requirement r >>= λ u. behind_component (is_token (codes "N") r) u

-- whether components may be after it
abbrev pub then_components : Bool → Result Tokens Halt → Result Bool Halt
then_components composite read = read >>= λ rest. Ok composite

-- the type of a used element, and what is after it
abbrev pub behind_type : (is_composite : Bool) → Tokens → Result Bool Halt
behind_type true ts = then_components true (at_end wanted.Components (take_repeat (drop 1 ts)).1)
behind_type false ts = then_components false (measure_read wanted.ElementType ts >>= λ m. row_read (take_repeat m).1)

-- what is after an element's requirement
abbrev pub behind_element : (is_unused : Bool) → Tokens → Result Bool Halt
behind_element true ts = then_components false (at_end wanted.End ts)
behind_element false ts = behind_type (is_token (codes "C") ts) ts

-- what is before the first semicolon
abbrev pub head_read : Tokens → Result Bool Halt
head_read ts =
    expected wanted.Reference ts >>= λ r. expected wanted.Requirement r >>= λ u. behind_element (is_token (codes "N") r) u

abbrev pub stop_in : (component : ℕ) → Halt → Option ElementStop
stop_in component h = Some (record { component = component; token = h.token; wanted = h.wanted })

-- the stop in a component, or else a later one
abbrev pub stop_or : {A : Type 0} → (component : ℕ) → Result A Halt → Option ElementStop → Option ElementStop
stop_or component (Err h) later = stop_in component h
stop_or component (Ok x) later = later

abbrev pub components_stop : (component : ℕ) → List Tokens → Option ElementStop
components_stop component [] = None
components_stop component (g ∷ gs) = stop_or component (component_read g) (components_stop (component + 1) gs)

-- only a composite has something after a semicolon
abbrev pub behind_stop : (is_composite : Bool) → Tokens → Option ElementStop
behind_stop composite [] = None
behind_stop true (semicolon ∷ ts) = components_stop 1 (token_groups ts)
behind_stop false (semicolon ∷ ts) = stop_in 0 (halt (semicolon ∷ ts) wanted.End)

abbrev pub head_stop : Result Bool Halt → Tokens → Option ElementStop
head_stop (Err h) behind = stop_in 0 h
head_stop (Ok composite) behind = behind_stop composite behind

abbrev pub stop_of_tokens : Tokens → Option ElementStop
stop_of_tokens ts = head_stop (head_read (take (position_or_len is_semicolon ts) ts)) (drop (position_or_len is_semicolon ts) ts)

-- where a text stops to be that of a row
abbrev pub element_stop : List ℕ → Option ElementStop
element_stop text = stop_of_tokens (tokens_of text)
