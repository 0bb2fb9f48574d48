-- Rows and their addresses: what a list says of an address, and that the newest rows are a table.
use Rattle.std.proofs.Common.{◌≡◌, ◌∙◌, ℕ, Bool, true, false, cond, ◌&&◌, List, [], ◌∷◌, ◌++◌, Option, Some, None, refl, sym, ap, subst}
use Rattle.std.proofs.Common.{map, option_map, reverse, true≢false}
use Rattle.std.specs.Cmp.Lexicographic.{nat_list_eq_equiv}
use Rattle.std.specs.List.{All, AllByRecursion, list_all}
use Rattle.std.specs.List.Sorted.{IsPermutation, IsSorted, IsStableBy, IsStrictlySortedBy}
use Rattle.std.specs.Option.{option_or}
use Rattle.std.specs.Ordering.{eq_by_cmp, is_lt}
use Rattle.std.specs.Str.{bytes_eq}
use Rattle.std.specs.declared.cmp.Ordering.TheVariants.{Less}
use Rattle.std.proofs.lemmas.List.Elements.{All-map, recursion_from_All}
use Rattle.std.proofs.lemmas.List.Filters.{All-dedup}
use Rattle.std.proofs.lemmas.List.Sorted.{All-permutation, IsPermutation-reverse}
use Rattle.hub_kinds.specs.Rising.{IsRisingBy, order_by}
use Rattle.kept_files.proofs.Ordered.{once, once_rises}
use Rattle.night_record.specs.Tables.{address_of, can_count}
use Rattle.night_record.specs.Values.{are_rising, rise_after}
use Rattle.night_record.specs.declared.addresses.AddressNext.{AddressNext}
use Rattle.kept_files.specs.Addressed.{AreNewest, HasOwnAddress, address_in, entry_of, row_in}
use Rattle.kept_files.specs.Addresses.{next_of}
use Rattle.kept_files.specs.declared.addresses.Addressed.{Addressed}
use Rattle.kept_files.proofs.Newest.{first_by, first_once, first_reversed, first_sorted, last_by, last_is_first, none_after, or_none, or_or}

-- a list after another one
pub next_of-append : (address : List ℕ) (rows more : List AddressNext)
    → next_of address (rows ++ more) ≡ option_or (next_of address more) (next_of address rows)
next_of-append address [] more = sym (or_none (next_of address more))
next_of-append address (row ∷ rows) more =
    let here = cond (bytes_eq (address_of row) address) (Some row) None in
    ap (λ o. option_or o here) (next_of-append address rows more) ∙ or_or (next_of address more) (next_of address rows) here

-- what entries say of an address
or_row : (found : Option Addressed) (b : Bool) (entry : Addressed)
    → option_or (option_map row_in found) (cond b (Some (row_in entry)) None)
    ≡ option_map row_in (option_or found (cond b (Some entry) None))
or_row None true entry = refl
or_row None false entry = refl
or_row (Some other) b entry = refl

pub by_entries : (address : List ℕ) (entries : List Addressed) → AllByRecursion HasOwnAddress entries
    → next_of address (map row_in entries) ≡ option_map row_in (last_by address_in address entries)
by_entries address [] own = refl
by_entries address (entry ∷ entries) own =
    let found = last_by address_in address entries in
    ap (λ o. option_or o (cond (bytes_eq (address_of entry.row) address) (Some entry.row) None)) (by_entries address entries own.1)
    ∙ ap (λ a. option_or (option_map row_in found) (cond (bytes_eq a address) (Some entry.row) None)) (sym own.0)
    ∙ or_row found (bytes_eq entry.address address) entry

rows_back : (rows : List AddressNext) → map row_in (map entry_of rows) ≡ rows
rows_back [] = refl
rows_back (row ∷ rows) = ap (λ l. row ∷ l) (rows_back rows)

-- some entry with an address
with_address : (address : List ℕ) → Addressed
with_address address = record {
  address = address;
  row = record { qualifier = []; id = []; next = record { interchange = 0; group = 0; set = 0 } };
}

own_first : (rows : List AddressNext) → All HasOwnAddress (map entry_of rows)
own_first rows = All-map HasOwnAddress entry_of rows (λ k d low. refl)

-- entries turned round, sorted, and the first of each address kept
pub newest_of : (rows : List AddressNext) (turned sorted : List Addressed) → turned ≡ reverse (map entry_of rows)
    → IsPermutation turned sorted → IsSorted (order_by address_in) sorted
    → IsStableBy (λ x y. is_lt (order_by address_in x y)) turned sorted → AreNewest rows (once address_in sorted)
unfolding with_address
newest_of rows turned sorted turned_is moved up stays =
    let first = map entry_of rows in
    let newest = once address_in sorted in
    let rising = once_rises address_in sorted up in
    let own_turned : All HasOwnAddress turned = subst (All HasOwnAddress) (sym turned_is)
    (All-permutation HasOwnAddress first (reverse first) (IsPermutation-reverse first) (own_first rows)) in
    let own : All HasOwnAddress newest =
    All-dedup (eq_by_cmp (order_by address_in)) HasOwnAddress sorted (All-permutation HasOwnAddress turned sorted moved own_turned) in
    record {
      rising = rising;
      own = own;
      each = λ address.
          let some = with_address address in
          by_entries address newest (recursion_from_All HasOwnAddress newest own)
          ∙ ap (option_map row_in) (last_is_first address_in address newest rising ∙ first_once address_in address sorted
          ∙ first_sorted address_in some turned sorted (stays some) ∙ ap (first_by address_in address) turned_is
          ∙ first_reversed address_in address first)
          ∙ sym (by_entries address first (recursion_from_All HasOwnAddress first (own_first rows)))
          ∙ ap (next_of address) (rows_back rows);
    }

-- texts that rise, each before the next one
rises : {X : Type 0} (key : X → List ℕ) (x : X) (xs : List X) → AllByRecursion (λ y. order_by key x y ≡ Less) xs → IsRisingBy key xs
    → rise_after (key x) (map key xs) ≡ true
unfolding IsStrictlySortedBy
rises key x [] above up = refl
rises key x (y ∷ ys) above up = ap (λ b. b && rise_after (key y) (map key ys)) (ap is_lt above.0) ∙ rises key y ys up.0 up.1

are_rising_by : {X : Type 0} (key : X → List ℕ) (xs : List X) → IsRisingBy key xs → are_rising (map key xs) ≡ true
unfolding IsStrictlySortedBy
are_rising_by key [] up = refl
are_rising_by key (x ∷ xs) up = rises key x xs up.0 up.1

own_addresses : (entries : List Addressed) → AllByRecursion HasOwnAddress entries
    → map address_of (map row_in entries) ≡ map address_in entries
own_addresses [] own = refl
own_addresses (entry ∷ entries) own = λ i. sym own.0 i ∷ own_addresses entries own.1 i

pub in_order : (entries : List Addressed) → IsRisingBy address_in entries → All HasOwnAddress entries
    → are_rising (map address_of (map row_in entries)) ≡ true
in_order entries up own =
    ap are_rising (own_addresses entries (recursion_from_All HasOwnAddress entries own)) ∙ are_rising_by address_in entries up

-- a row with a number that can't be, and what its list says of its address
pub record HasBadRow (rows : List AddressNext) : Type 0 where
  pub address : List ℕ
  pub row : AddressNext
  pub known : next_of address rows ≡ Some row
  pub numbers : can_count row ≡ false

bad_here : (entry : Addressed) (entries : List Addressed) (b : Bool) → can_count entry.row ≡ b → IsRisingBy address_in (entry ∷ entries)
    → AllByRecursion HasOwnAddress (entry ∷ entries) → b && list_all can_count (map row_in entries) ≡ false
    → (list_all can_count (map row_in entries) ≡ false → HasBadRow (map row_in entries)) → HasBadRow (map row_in (entry ∷ entries))
unfolding IsStrictlySortedBy
bad_here entry entries true is up own bad later =
    let next = later bad in
    record {
      address = next.address;
      row = next.row;
      known = ap (λ o. option_or o (cond (bytes_eq (address_of entry.row) next.address) (Some entry.row) None)) next.known;
      numbers = next.numbers;
    }
bad_here entry entries false is up own bad later = record {
  address = entry.address;
  row = entry.row;
  known = by_entries entry.address (entry ∷ entries) own
      ∙ ap (λ o. option_map row_in (option_or o (cond (bytes_eq entry.address entry.address) (Some entry) None)))
      (none_after address_in entry entries up.0)
      ∙ ap (λ b. option_map row_in (cond b (Some entry) None)) (nat_list_eq_equiv.refl entry.address);
  numbers = is;
}

bad_of : (entries : List Addressed) → IsRisingBy address_in entries → AllByRecursion HasOwnAddress entries
    → list_all can_count (map row_in entries) ≡ false → HasBadRow (map row_in entries)
unfolding IsStrictlySortedBy
bad_of [] up own bad = absurd (true≢false bad)
bad_of (entry ∷ entries) up own bad =
    bad_here entry entries (can_count entry.row) refl up own bad (λ later. bad_of entries up.1 own.1 later)

pub bad_row : (entries : List Addressed) → IsRisingBy address_in entries → All HasOwnAddress entries
    → list_all can_count (map row_in entries) ≡ false → HasBadRow (map row_in entries)
bad_row entries up own bad = bad_of entries up (recursion_from_All HasOwnAddress entries own) bad
