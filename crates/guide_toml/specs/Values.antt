-- The guide file (own): what values of its tables mean.
use Rattle.std.specs.Prelude.{ℕ, ◌==◌, List, length, codes, Option, Some, None, Bool, ◌&&◌, not, if◌then◌else◌, option_and_then}
use Rattle.std.specs.List.{list_all}
use Rattle.std.specs.Str.{bytes_eq}
use Rattle.std.specs.Char.{is_ascii_uppercase}
use Rattle.toml.specs.Data.{Data, as_str}
use Rattle.guide_tree.specs.declared.rows.DependencyKind.{DependencyKind}
use Rattle.guide_tree.specs.declared.rows.DependencyKind.TheVariants as dependency
use Rattle.toml_keys.specs.Tables.{list_in}

-- two upper-case letters, not FA
abbrev pub is_group : List ℕ → Bool
is_group s = (length s == 2) && list_all is_ascii_uppercase s && not (bytes_eq s (codes "FA"))

abbrev pub group_in : Data → Option (List ℕ)
group_in d = option_and_then (λ s. if is_group s then Some s else None) (as_str d)

-- a text, by what it means
abbrev pub text_item : {A : Type 0} → (List ℕ → Option A) → Data → Option A
text_item reading d = option_and_then reading (as_str d)

-- a list of texts
abbrev pub texts_in : {A : Type 0} → (List ℕ → Option A) → Data → Option (List A)
texts_in reading d = list_in (text_item reading) d

-- `need` or `ban`
abbrev pub dependency_kind_of : List ℕ → Option DependencyKind
dependency_kind_of s =
    if bytes_eq s (codes "need") then Some dependency.Need
    else (if bytes_eq s (codes "ban") then Some dependency.Ban else None)

abbrev pub dependency_kind_in : Data → Option DependencyKind
dependency_kind_in d = option_and_then dependency_kind_of (as_str d)
