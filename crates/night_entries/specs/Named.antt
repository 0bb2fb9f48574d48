-- Own: the last one of a name. `found_in` is private.
use Rattle.std.specs.Prelude.{ℕ, List, [], ◌∷◌, Option, Some, None, option_map, if◌then◌else◌}
use Rattle.std.specs.BTreeMap.{BTreeMap, get_by}
use Rattle.std.specs.Cmp.Lexicographic.{slice_cmp}
use Rattle.std.specs.Option.{option_or}
use Rattle.std.specs.Ordering.{nat_cmp}
use Rattle.std.specs.Str.{bytes_eq}
use denote.Ref.{Bor}

abbrev pub named : {X : Type 0} → (X → List ℕ) → (name : List ℕ) → List X → Option X
named of name [] = None
named of name (x ∷ xs) = option_or (named of name xs) (if bytes_eq (of x) name then Some x else None)

abbrev pub found_in : {X : Type 0} → BTreeMap (Bor (List ℕ)) (Bor X) → (name : List ℕ) → Option X
found_in map name = option_map (λ item. item.now) (get_by (λ k. slice_cmp nat_cmp name k.now) map)
