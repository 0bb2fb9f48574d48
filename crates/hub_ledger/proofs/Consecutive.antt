-- The numbers of an address over nights that go on.
use Rattle.std.proofs.Common.{◌≡◌, ℕ, zero, suc, ◌+◌, ◌-◌, ◌%◌, List, [], ◌∷◌, ◌++◌, length, Option, Some, None, IfSome, refl, sym, subst}
use Rattle.std.proofs.Common.{ap, ◌∙◌, arith, append-nil, length-append}
use Rattle.std.specs.List.{AllByRecursion}
use Rattle.std.specs.Option.{MatchOption, option_or}
use Rattle.std.proofs.Math.Nat.{mod-add-mod}
use Rattle.count_numbers.specs.Num.{num}
use Rattle.hub_ledger.specs.declared.entry.AddressNumbers.{AddressNumbers}
use Rattle.hub_ledger.specs.declared.entry.NightEntry.{NightEntry}
use Rattle.hub_ledger.specs.Entries.{GoOn, KnownRow, known_row, last_known, row_of}
use Rattle.hub_ledger.specs.Events.{entries_of}
use Rattle.hub_ledger.specs.Nights.{AreConsecutive, IsCounted, LeadFrom, Night, Numbered, next_number, numbers_from, numbers_in}
use Rattle.hub_ledger.specs.Nights.{numbers_sent}
use Rattle.hub_ledger.proofs.Rows.{row_begins}

num_num : (f a b : ℕ) → num (num f a) b ≡ num f (a + b)
num_num f a b =
    let one : (1 + (f - 1 + a) % 999999999) - 1 ≡ (f - 1 + a) % 999999999 = omega (arith) in
    let both : (f - 1 + a) + b ≡ f - 1 + (a + b) = omega (arith) in
    ap (λ n. 1 + (n + b) % 999999999) one ∙ ap (λ n. 1 + n) (mod-add-mod (f - 1 + a) 999999999 b) ∙ ap (λ n. 1 + n % 999999999) both

from_first : (f n : ℕ) → numbers_from (num f 0) n ≡ numbers_from f n
from_first f zero = refl
from_first f (suc n) = rw (num_num f 0 0, num_num f 0 1)

split : (f m n : ℕ) → numbers_from f (m + n) ≡ numbers_from f m ++ numbers_from (num f m) n
split f zero n = let none : 0 + n ≡ n = omega (arith) in ap (numbers_from f) none ∙ sym (from_first f n)
split f (suc m) n =
    let one : suc m + n ≡ suc (m + n) = omega (arith) in
    let next : num (num f 1) m ≡ num f (suc m) = num_num f 1 m ∙ ap (num f) (omega (arith)) in
    ap (numbers_from f) one
    ∙ ap (λ xs. num f 0 ∷ xs) (split (num f 1) m n ∙ ap (λ k. numbers_from (num f 1) m ++ numbers_from k n) next)

-- what an address was sent so far, and the next number of it
abbrev Counts : Numbered → Option KnownRow → List ℕ → Type 0
Counts of None sent = sent ≡ []
Counts of (Some known) sent = (first : ℕ) × (sent ≡ numbers_from first (length sent))
    × (next_number of known.row.left ≡ num first (length sent))

abbrev CountedRow : Numbered → Option AddressNumbers → List ℕ → Type 0
CountedRow of row numbers = MatchOption row (numbers ≡ []) (λ r. LeadFrom (next_number of r.begun) numbers (next_number of r.left))

counted : (of : Numbered) (night : NightEntry) (row : Option AddressNumbers) (had : Option KnownRow) (sent numbers : List ℕ)
    → Counts of had sent → CountedRow of row numbers
    → ((r : AddressNumbers) → row ≡ Some r → IfSome had (λ known. r.begun ≡ known.row.left))
    → Counts of (option_or (known_row night row) had) (sent ++ numbers)
counted of night None had sent numbers h is begins =
    subst (Counts of had) (sym (ap (λ ns. sent ++ ns) is ∙ append-nil sent)) h
counted of night (Some row) None sent numbers h is begins =
    subst (Counts of (Some (record { night = night; row = row }))) (sym (ap (λ ss. ss ++ numbers) h)) (next_number of row.begun, is.0, is.1)
counted of night (Some row) (Some known) sent numbers h is begins =
    let goes : next_number of row.begun ≡ num h.0 (length sent) = ap (next_number of) (begins row refl) ∙ h.2 in
    let long : length (sent ++ numbers) ≡ length sent + length numbers = length-append sent numbers in
    let all : numbers_from h.0 (length sent + length numbers) ≡ sent ++ numbers =
    split h.0 (length sent) (length numbers)
    ∙ ap (λ xs. xs ++ numbers_from (num h.0 (length sent)) (length numbers)) (sym h.1)
    ∙ ap (λ k. sent ++ numbers_from k (length numbers)) (sym goes) ∙ ap (λ xs. sent ++ xs) (sym is.0) in
    let last : next_number of row.left ≡ num h.0 (length sent + length numbers) =
    is.1 ∙ ap (λ k. num k (length numbers)) goes ∙ num_num h.0 (length sent) (length numbers) in
    (h.0, sym all ∙ ap (numbers_from h.0) (sym long), last ∙ ap (num h.0) (sym long))

counts : (of : Numbered) (address : List ℕ) (nights : List Night) → GoOn (entries_of nights) → AllByRecursion IsCounted nights
    → Counts of (last_known address (entries_of nights)) (numbers_sent of address nights)
counts of address [] go all = refl
counts of address (night ∷ older) go all =
    counted of night.entry (row_of address night.entry.addresses) (last_known address (entries_of older)) (numbers_sent of address older)
    (numbers_in of address night) (counts of address older go.1 all.1) (all.0 of address)
    (row_begins (entries_of older) address night.entry.addresses go.0.numbers)

first_of : (of : Numbered) (known : Option KnownRow) (sent : List ℕ) → Counts of known sent
    → (first : ℕ) × (sent ≡ numbers_from first (length sent))
first_of of None sent h = (1, h ∙ ap (λ xs. numbers_from 1 (length xs)) (sym h))
first_of of (Some known) sent h = (h.0, h.1)

pub consecutive : (nights : List Night) → GoOn (entries_of nights) → AllByRecursion IsCounted nights → AreConsecutive nights
consecutive nights go all of address =
    first_of of (last_known address (entries_of nights)) (numbers_sent of address nights) (counts of address nights go all)
