-- A file that was asked for by its path (own): its bytes, where it can be read.
use Rattle.std.specs.Prelude.{ℕ, List, Option}

pub record FileValue : Type 0 where
  pub path : List ℕ
  pub bytes : Option (List ℕ)
