-- The row of an address is one of the rows, so it begins where the last night that knows the address left it.
use Rattle.std.proofs.Common.{◌≡◌, ◌↔◌, ℕ, Bool, true, false, not, cond, filter, List, [], ◌∷◌, Option, Some, None, IfSome, refl, subst}
use Rattle.std.proofs.Common.{ap, sym}
use Rattle.std.specs.List.{AllByRecursion}
use Rattle.std.specs.Option.{option_or}
use Rattle.std.specs.Str.{bytes_eq}
use Rattle.std.specs.Cmp.Lexicographic.{bytes_decides}
use Rattle.hub_ledger.specs.declared.entry.AddressNumbers.{AddressNumbers}
use Rattle.hub_ledger.specs.declared.entry.NightEntry.{NightEntry}
use Rattle.hub_kinds.specs.Words.{contains_text}
use Rattle.hub_ledger.specs.Entries.{AreApart, AreNew, BeginsWhereLeft, GoOn, fresh_keys, last_known, row_of}

abbrev Begins : List NightEntry → (address : List ℕ) → AddressNumbers → Type 0
Begins older address row = IfSome (last_known address older) (λ known. row.begun ≡ known.row.left)

here : (older : List NightEntry) (address : List ℕ) (r row : AddressNumbers) → BeginsWhereLeft older r → bytes_eq r.address address ≡ true
    → r ≡ row → Begins older address row
here older address r row begins same is =
    subst (λ (x : AddressNumbers). Begins older address x) is
    (subst (λ (a : List ℕ). Begins older a r) ((bytes_decides r.address address).0 same) begins)

first : (older : List NightEntry) (address : List ℕ) (r row : AddressNumbers) (b : Bool) → bytes_eq r.address address ≡ b
    → BeginsWhereLeft older r → cond b (Some r) None ≡ Some row → Begins older address row
first older address r row true same begins is = here older address r row begins same (cc)
first older address r row false same begins is = absurd (cc)

either : (older : List NightEntry) (address : List ℕ) (r row : AddressNumbers) (found : Option AddressNumbers)
    → BeginsWhereLeft older r → (found ≡ Some row → Begins older address row)
    → option_or found (cond (bytes_eq r.address address) (Some r) None) ≡ Some row → Begins older address row
either older address r row None begins later is = first older address r row (bytes_eq r.address address) refl begins is
either older address r row (Some x) begins later is = later is

pub row_begins : (older : List NightEntry) (address : List ℕ) (rows : List AddressNumbers) → AllByRecursion (BeginsWhereLeft older) rows
    → (row : AddressNumbers) → row_of address rows ≡ Some row → Begins older address row
row_begins older address [] all row is = absurd (cc)
row_begins older address (r ∷ rows) all row is =
    either older address r row (row_of address rows) all.0 (row_begins older address rows all.1 row) is

pub apart : (nights : List NightEntry) → GoOn nights → AreApart nights
apart [] go = tt
apart (night ∷ older) go = (go.0.keys, apart older go.1)

-- a night that wasn't asked for anything again
all_fresh : (keys : List (List ℕ)) → filter (λ key. not (contains_text [] key)) keys ≡ keys
all_fresh [] = refl
all_fresh (k ∷ keys) = ap (λ (ks : List (List ℕ)). k ∷ ks) (all_fresh keys)

fresh : (night : NightEntry) → night.again ≡ [] → fresh_keys night ≡ night.delivered
fresh night none =
    subst (λ (again : List (List ℕ)). filter (λ key. not (contains_text again key)) night.delivered ≡ night.delivered) (sym none)
    (all_fresh night.delivered)

pub delivers_new : (nights : List NightEntry) → AllByRecursion (λ (night : NightEntry). night.again ≡ []) nights
    → AreApart nights ↔ AreNew nights
delivers_new [] all = (λ apart. tt, λ new. tt)
delivers_new (night ∷ older) all =
    let rest = delivers_new older all.1 in
    let is : fresh_keys night ≡ night.delivered = fresh night all.0 in (
      λ apart. (λ key has. apart.0 key (subst (λ (ks : List (List ℕ)). contains_text ks key ≡ true) (sym is) has), rest.0 apart.1),
      λ new. (λ key has. new.0 key (subst (λ (ks : List (List ℕ)). contains_text ks key ≡ true) is has), rest.1 new.1),
    )
