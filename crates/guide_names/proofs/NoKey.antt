-- A text that is no UTF-8 is no key of a table.
use Rattle.std.proofs.Common.{◌≡◌, ℕ, List, [], ◌∷◌, Option, None, Some, String}
use Rattle.std.proofs.Common.{Global, Ordering, Less, Equal, Greater, nat_cmp, string_bytes, refl, sym, subst}
use Rattle.std.specs.Str.{IsUtf8}
use Rattle.std.specs.Cmp.Lexicographic.{slice_cmp}
use Rattle.std.specs.Ordering.{match_ordering}
use Rattle.std.proofs.lemmas.Str.{IsUtf8-string_bytes}
use Rattle.std.proofs.lemmas.Map.Lookups.{exact_bytes}
use Rattle.toml.specs.Data.{Data, get_member}
use Rattle.toml.specs.View.{members_view, view}
use Rattle.toml.specs.declared.value.Value.{Value}

step : (o : Ordering) (d : Data) (rest : Option Data) → (o ≡ Equal → ⊥) → rest ≡ None → match_ordering o rest (Some d) rest ≡ None
step Less d rest apart none = none
step Equal d rest apart none = absurd (apart refl)
step Greater d rest apart none = none

pub no_key : (key : List ℕ) (es : List (String Global × Value)) → (IsUtf8 key → ⊥) → get_member key (members_view es) ≡ None
no_key key [] odd = refl
no_key key (e ∷ es) odd =
    step (slice_cmp nat_cmp key (string_bytes e.0)) (view e.1) (get_member key (members_view es))
    (λ same. odd (subst IsUtf8 (sym (exact_bytes key (string_bytes e.0) same)) (IsUtf8-string_bytes e.0)))
    (no_key key es odd)
