-- The sets that a night was asked for again (own), by their keys.
use Rattle.std.specs.Prelude.{◌≡◌, ◌≢◌, ℕ, List, [], ◌∷◌, ◌++◌, map}
use Rattle.night_record.specs.Again.{again_text}
use Rattle.night_record.specs.declared.again.AgainSet.{AgainSet}

-- the key of a set in the table: what `set_key` says of these elements
abbrev pub key_of : AgainSet → List ℕ
key_of set = set.ends ++ (set.isa13 ++ (set.gs06 ++ (0 ∷ []) ++ (set.st02 ++ (0 ∷ []) ++ set.receiver)))

-- the keys of the sets whose table the bytes are
pub record AreAgainKeys (bytes : List ℕ) (keys : List (List ℕ)) : Type 0 where
  pub sets : List AgainSet
  pub table : bytes ≡ again_text sets
  pub keys_are : keys ≡ map key_of sets

-- bytes that are no such table
abbrev pub IsNoTable : (bytes : List ℕ) → Type 0
IsNoTable bytes = (sets : List AgainSet) → bytes ≢ again_text sets
