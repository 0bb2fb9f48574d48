-- Files of tables (own): the least key of a table that it may not have, in the order of bytes.
use Rattle.std.specs.Prelude.{ℕ, List, [], ◌∷◌, Option, Some, None, Result, Err, if◌then◌else◌}
use Rattle.std.specs.Ordering.{nat_cmp, is_gt}
use Rattle.std.specs.Cmp.Lexicographic.{slice_cmp}
use Rattle.toml.specs.Data.{Members, no_members, member}
use Rattle.hub_kinds.specs.Words.{contains_text}
use Rattle.toml_keys.specs.Refusals.{Refusal, unknown}

-- the keys of a table that aren't listed
abbrev pub unknown_keys : List (List ℕ) → Members → List (List ℕ)
unknown_keys listed no_members = []
unknown_keys listed (member key d ms) = if contains_text listed key then unknown_keys listed ms else key ∷ unknown_keys listed ms

-- the lesser of two texts
abbrev pub lesser : List ℕ → Option (List ℕ) → List ℕ
lesser a None = a
lesser a (Some b) = if is_gt (slice_cmp nat_cmp a b) then b else a

-- the least of some texts
abbrev pub least_text : List (List ℕ) → Option (List ℕ)
least_text [] = None
least_text (a ∷ bs) = Some (lesser a (least_text bs))

-- the least key of a table that isn't listed
abbrev pub least_unknown : List (List ℕ) → Members → Option (List ℕ)
least_unknown listed ms = least_text (unknown_keys listed ms)

-- a table without such a key is read; else the least is refused
abbrev pub if_known : {A : Type 0} → Option (List ℕ) → Result A Refusal → Result A Refusal
if_known None read = read
if_known (Some key) read = Err (unknown key)
