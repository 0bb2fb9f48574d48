-- Where nights left each address.
use Rattle.std.proofs.Common.{◌≡◌, ◌∙◌, ℕ, Bool, true, false, cond, List, [], ◌∷◌, Option, Some, None, ap, map, option_map, refl}
use Rattle.std.proofs.Common.{sym}
use Rattle.std.specs.List.{AllByRecursion}
use Rattle.std.specs.Option.{option_or}
use Rattle.std.specs.Str.{bytes_eq}
use Rattle.hub_kinds.specs.declared.counters.Counters.{Counters}
use Rattle.hub_ledger.specs.declared.entry.AddressNumbers.{AddressNumbers}
use Rattle.hub_ledger.specs.declared.entry.NightEntry.{NightEntry}
use Rattle.hub_ledger.specs.Entries.{KnownRow, known_row, last_known, row_of}
use Rattle.kept_files.specs.Addresses.{known_of, next_of}
use Rattle.night_record.specs.Tables.{address_of}
use Rattle.night_record.specs.declared.addresses.AddressNext.{AddressNext}
use Rattle.archived_nights.specs.Archive.{AreLeft, address_in, left_by, next_in, rows_of}
use Rattle.archived_nights.specs.Archived.{IsIdle, left_in, left_of}

either : (b : Bool) (n : AddressNext) (r : AddressNumbers) (next : Option AddressNext) (row : Option AddressNumbers)
    → next_in n ≡ left_by r → option_map next_in next ≡ left_in row
    → option_map next_in (option_or next (cond b (Some n) None)) ≡ left_in (option_or row (cond b (Some r) None))
either b n r (Some m) (Some q) same so_far = so_far
either b n r (Some m) None same so_far = absurd (cc)
either b n r None (Some q) same so_far = absurd (cc)
either true n r None None same so_far = ap Some same
either false n r None None same so_far = refl

heads : {X : Type 0} (x y : X) (xs ys : List X) → x ∷ xs ≡ y ∷ ys → (x ≡ y) × (xs ≡ ys)
heads x y xs ys is = (cc, cc)

pub rows_alike : (list : List AddressNext) (rows : List AddressNumbers) → map address_of list ≡ map address_in rows
    → map next_in list ≡ map left_by rows → (address : List ℕ)
    → option_map next_in (next_of address list) ≡ left_in (row_of address rows)
rows_alike [] [] addresses left address = refl
rows_alike [] (r ∷ rows) addresses left address = absurd (cc)
rows_alike (n ∷ list) [] addresses left address = absurd (cc)
rows_alike (n ∷ list) (r ∷ rows) addresses left address =
    let a = heads (address_of n) (address_in r) (map address_of list) (map address_in rows) addresses in
    let l = heads (next_in n) (left_by r) (map next_in list) (map left_by rows) left in
    ap (λ (at : List ℕ). option_map next_in (option_or (next_of address list) (cond (bytes_eq at address) (Some n) None))) a.0
    ∙ either (bytes_eq r.address address) n r (next_of address list) (row_of address rows) l.0
    (rows_alike list rows a.1 l.1 address)

known : (night : NightEntry) (next : Option AddressNext) (row : Option AddressNumbers) (older : Option AddressNext) (had : Option KnownRow)
    → option_map next_in next ≡ left_in row → option_map next_in older ≡ left_of had
    → option_map next_in (option_or next older) ≡ left_of (option_or (known_row night row) had)
known night None None older had same before = before
known night (Some n) (Some r) older had same before = same
known night None (Some r) older had same before = absurd (cc)
known night (Some n) None older had same before = absurd (cc)

pub left_more : (night : NightEntry) (older tonight list : List AddressNext)
    → map address_of tonight ≡ map address_in night.addresses → map next_in tonight ≡ map left_by night.addresses
    → ((address : List ℕ) → next_of address list ≡ known_of address older tonight)
    → (nights : List NightEntry) → AreLeft nights older → AreLeft (night ∷ nights) list
left_more night older tonight list addresses left each nights before address =
    ap (option_map next_in) (each address)
    ∙ known night (next_of address tonight) (row_of address night.addresses) (next_of address older) (last_known address nights)
    (rows_alike tonight night.addresses addresses left address) (before address)

idle_rows : (list : List AddressNext) → AllByRecursion IsIdle (rows_of list)
idle_rows [] = tt
idle_rows (n ∷ list) = (refl, idle_rows list)

pub all_idle : (list : List AddressNext) → AllByRecursion IsIdle (rows_of list)
all_idle list = idle_rows list

same_addresses : (list : List AddressNext) → map address_of list ≡ map address_in (rows_of list)
same_addresses [] = refl
same_addresses (n ∷ list) = ap (λ (l : List (List ℕ)). address_of n ∷ l) (same_addresses list)

same_left : (list : List AddressNext) → map next_in list ≡ map left_by (rows_of list)
same_left [] = refl
same_left (n ∷ list) = ap (λ (l : List Counters). next_in n ∷ l) (same_left list)

-- the rows of an entry say what the list says
pub entry_left : (nights : List NightEntry) (list : List AddressNext) → AreLeft nights list → (address : List ℕ)
    → left_in (row_of address (rows_of list)) ≡ left_of (last_known address nights)
entry_left nights list is address = sym (rows_alike list (rows_of list) (same_addresses list) (same_left list) address) ∙ is address
