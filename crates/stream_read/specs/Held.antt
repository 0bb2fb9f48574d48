-- Own: what is held of a stream.
use Rattle.std.specs.Prelude.{◌≡◌, ℕ, ◌+◌, List, ◌++◌, length, Option}
use Rattle.std.specs.Io.KnownBytes.{Consumes}

-- the bytes that are read and not dropped, and how many were read in all
pub record HeldValue : Type 0 where
  pub bytes : List ℕ
  pub total : ℕ

-- this many more bytes were read
pub record HasRead (before after : Option (List ℕ)) (old new : HeldValue) (n : ℕ) : Type 0 where
  pub more : List ℕ
  pub count : length more ≡ n
  pub consumed : Consumes before after more
  pub bytes : new.bytes ≡ old.bytes ++ more
  pub total : new.total ≡ old.total + n
