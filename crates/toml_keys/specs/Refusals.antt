-- Files of tables (own): why a table isn't read.
use Rattle.std.specs.Prelude.{ℕ, List}

-- a key isn't there; what is at a key has another type or form; a key isn't listed
pub data Refusal : Type 0 where
  missing : List ℕ → Refusal
  wrong_kind : List ℕ → Refusal
  unknown : List ℕ → Refusal
