-- X12.5, interchange control number (ISA13), and X12.6, group and set control numbers (GS06, ST02): which numbers an address is sent, in a
-- night and over nights (own). The newest night comes first.
use Rattle.std.specs.Prelude.{◌≡◌, ℕ, zero, suc, List, [], ◌∷◌, ◌++◌, length, MatchOption, if◌then◌else◌}
use Rattle.std.specs.List.{flat_map}
use Rattle.std.specs.Str.{bytes_eq}
use Rattle.hub_kinds.specs.declared.counters.Counters.{Counters}
use Rattle.count_numbers.specs.Num.{num}
use Rattle.hub_ledger.specs.declared.entry.NightEntry.{NightEntry}
use Rattle.hub_ledger.specs.Entries.{row_of}

-- what is numbered
pub data Numbered : Type 0 where
  Interchange : Numbered
  Group : Numbered
  Set : Numbered

abbrev pub next_number : Numbered → Counters → ℕ
next_number Interchange counters = counters.interchange
next_number Group counters = counters.group
next_number Set counters = counters.set

-- that many numbers that go up by one from a first
abbrev pub numbers_from : (first count : ℕ) → List ℕ
numbers_from first zero = []
numbers_from first (suc n) = num first 0 ∷ numbers_from (num first 1) n

-- numbers that an address is sent in a night, in the order in which they are in its files
pub record Sent : Type 0 where
  pub address : List ℕ
  pub interchanges : List ℕ
  pub groups : List ℕ
  pub sets : List ℕ

abbrev pub numbers_of : Numbered → Sent → List ℕ
numbers_of Interchange sent = sent.interchanges
numbers_of Group sent = sent.groups
numbers_of Set sent = sent.sets

-- a night: what is kept of it, and what it sends
pub record Night : Type 0 where
  pub entry : NightEntry
  pub sent : List Sent

abbrev pub numbers_in : Numbered → (address : List ℕ) → Night → List ℕ
numbers_in of address night =
    flat_map (λ (sent : Sent). if bytes_eq sent.address address then numbers_of of sent else []) night.sent

-- all that an address was ever sent, the oldest first
abbrev pub numbers_sent : Numbered → (address : List ℕ) → List Night → List ℕ
numbers_sent of address [] = []
numbers_sent of address (night ∷ older) = numbers_sent of address older ++ numbers_in of address night

-- numbers from one that lead to the next one
abbrev pub LeadFrom : (begun : ℕ) → (numbers : List ℕ) → (left : ℕ) → Type 0
LeadFrom begun numbers left = (numbers ≡ numbers_from begun (length numbers)) × (left ≡ num begun (length numbers))

-- a night numbers what it sends from the numbers that it begins with, and leaves the next ones; an address without a row gets nothing
abbrev pub IsCounted : Night → Type 0
IsCounted night = (of : Numbered) (address : List ℕ) → MatchOption (row_of address night.entry.addresses)
    (numbers_in of address night ≡ [])
    (λ row. LeadFrom (next_number of row.begun) (numbers_in of address night) (next_number of row.left))

-- the numbers of an address go up by one from a first
abbrev pub AreConsecutive : List Night → Type 0
AreConsecutive nights = (of : Numbered) (address : List ℕ)
    → (first : ℕ) × (numbers_sent of address nights ≡ numbers_from first (length (numbers_sent of address nights)))
