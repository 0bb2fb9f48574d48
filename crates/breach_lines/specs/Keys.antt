-- The parts of a set's key, as `night_entries` writes it (own): ISA05 to ISA08 and ISA13 (X12.5), GS06 and ST02 (X12.6), each with a
-- byte 0 after it, and the receiver's address.
use Rattle.std.specs.Prelude.{◌≡◌, ℕ, ◌+◌, ◌==◌, not, List, [], ◌∷◌, ◌++◌, codes, drop, filter, length, slice_range, if◌then◌else◌}
use Rattle.std.specs.Prelude.{nat_le}
use Rattle.breach_lines.specs.declared.key.KeyParts.{KeyParts}

-- the bytes before the first `stop`, and those after it
abbrev pub until : (stop : ℕ) → List ℕ → List ℕ
until stop [] = []
until stop (b ∷ bs) = if b == stop then [] else b ∷ until stop bs

abbrev pub after : (stop : ℕ) → List ℕ → List ℕ
after stop text = drop (length (until stop text) + 1) text

-- the bytes from a place up to another; none if the key is shorter
abbrev pub part : (key : List ℕ) → (from to : ℕ) → List ℕ
part key from to = if nat_le to (length key) then slice_range key from to else []

-- an id without the spaces that fill its element
abbrev pub unspaced : List ℕ → List ℕ
unspaced id = filter (λ b. not (b == 32)) id

-- ISA05 and ISA06, the sender
abbrev pub sender_of : List ℕ → List ℕ
sender_of key = part key 0 2 ++ (codes " " ++ unspaced (part key 2 17))

-- ISA07 and ISA08, the hub as the sender names it
abbrev pub hub_of : List ℕ → List ℕ
hub_of key = part key 17 19 ++ (codes " " ++ unspaced (part key 19 34))

-- ISA13
abbrev pub interchange_of : List ℕ → List ℕ
interchange_of key = part key 34 43

-- what is after ISA13
abbrev pub numbers_of : List ℕ → List ℕ
numbers_of key = part key 43 (length key)

-- GS06
abbrev pub group_of : List ℕ → List ℕ
group_of key = until 0 (numbers_of key)

-- ST02
abbrev pub set_of : List ℕ → List ℕ
set_of key = until 0 (after 0 (numbers_of key))

-- the receiver's address
abbrev pub receiver_of : List ℕ → List ℕ
receiver_of key = after 0 (after 0 (numbers_of key))

-- ISA05 to ISA08
abbrev pub ends_of : List ℕ → List ℕ
ends_of key = part key 0 34

-- the elements of a key
pub record AreParts (key : List ℕ) (parts : KeyParts) : Type 0 where
  pub ends : parts.ends.now ≡ ends_of key
  pub isa13 : parts.isa13.now ≡ interchange_of key
  pub gs06 : parts.gs06.now ≡ group_of key
  pub st02 : parts.st02.now ≡ set_of key
  pub receiver : parts.receiver.now ≡ receiver_of key
