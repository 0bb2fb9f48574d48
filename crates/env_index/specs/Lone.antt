-- X12.5, interchange: a text that is one interchange, with nothing but CR, LF and space around it (own).
use Rattle.std.specs.Prelude.{◌≡◌, ℕ, List, [], ◌∷◌}
use Rattle.env_index.specs.Extents.{Extent, Chain, count_outside}

-- the extent is the only interchange, and no byte but filler is outside it
pub record IsLone (text : List ℕ) (x : Extent) : Type 0 where
  pub chain : Chain text (x ∷ [])
  pub inside : count_outside text 0 (x ∷ []) ≡ 0
