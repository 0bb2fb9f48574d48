use Rattle.std.proofs.Common.{◌≡◌, ℕ, List, Option, Some, None, Bor, String, Global, not, string_bytes, option_map, map, refl, ap}
use Rattle.std.proofs.Common.{◌∙◌, rules, tests}
use Rattle.std.specs.Map.Iter.{deref}
use Rattle.std.specs.Map.{keys_of as entry_keys}
use Rattle.std.proofs.lemmas.Iterator.Search.{find_from_yields_List}
use Rattle.std.proofs.lemmas.Iterator.Consumers.{YieldsList-from_rest}
use Rattle.hub_kinds.specs.Words.{contains_text}
use Rattle.toml_keys.proofs.LeastKey.{first_is_least}
use Rattle.toml_keys.proofs.keys.least_unknown.Goals as goal

bytes_of_ref : (r : Option (Bor (String Global)))
    → option_map (λ (k : Bor (String Global)). string_bytes k.now) r ≡ option_map string_bytes (option_map deref r)
bytes_of_ref None = refl
bytes_of_ref (Some k) = refl

pub returns : goal.returns
returns c =
    let listed : List (List ℕ) = map (λ (key : Bor (List ℕ)). key.now) c.args.listed.now in
    bytes_of_ref c.find.result
    ∙ ap (option_map string_bytes) (find_from_yields_List (λ k. not (contains_text listed (string_bytes k))) _ _ c.find.result
    c.find.ensures.ran (YieldsList-from_rest (entry_keys c.args.table.now.entries) c.keys.ensures.rest)
    (λ x b q k. search (rules, tests)))
    ∙ first_is_least listed c.args.table.now.entries c.keys.ensures.ordered
