-- Texts that grow (own): what was there is still the beginning of what is there.
use Rattle.std.specs.Prelude.{ℕ, ◌≡◌, List, ◌++◌}

-- a text begins with another
pub record Extends (old new : List ℕ) : Type 0 where
  pub rest : List ℕ
  pub is : new ≡ old ++ rest
