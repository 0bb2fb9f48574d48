-- The map of numbers with more rows, and with one more night.
use Rattle.std.proofs.Common.{◌≡◌, ℕ, Bool, true, false, cond, List, [], ◌∷◌, ◌++◌, Option, Some, None, option_map, refl, sym, ap, ◌∙◌}
use Rattle.std.proofs.Common.{◌+◌, ◌<◌, length, take, get_or, reverse}
use Rattle.std.specs.Option.{option_or}
use Rattle.std.specs.Str.{bytes_eq}
use Rattle.std.specs.BTreeMap.{BTreeMap, UpdatesBy}
use Rattle.std.specs.Cmp.Lexicographic.{slice_cmp}
use Rattle.std.specs.Ordering.{nat_cmp}
use Rattle.std.proofs.lemmas.List.{reverse-append, take_more}
use Rattle.std.proofs.lemmas.Map.Text.{btree_map_updates_str}
use Rattle.hub_kinds.specs.declared.counters.Counters.{Counters}
use Rattle.hub_ledger.specs.Entries.{KnownRow, known_row, last_known, row_of}
use Rattle.hub_ledger.specs.declared.entry.AddressNumbers.{AddressNumbers}
use Rattle.hub_ledger.specs.declared.entry.NightEntry.{NightEntry}
use Rattle.night_entries.specs.Named.{named}
use Rattle.hub_tonight.specs.Begun.{numbers_left}
use Rattle.hub_tonight.specs.Numbers.{numbers_in}
use denote.Ref.{Bor}

or_none : {X : Type 0} (o : Option X) → option_or o None ≡ o
or_none None = refl
or_none (Some x) = refl

or_or : {X : Type 0} (a b c : Option X) → option_or (option_or a b) c ≡ option_or a (option_or b c)
or_or None b c = refl
or_or (Some a) b c = refl

one_more : {X : Type 0} (of : X → List ℕ) (q : List ℕ) (xs : List X) (x : X)
    → named of q (xs ++ x ∷ []) ≡ option_or (cond (bytes_eq (of x) q) (Some x) None) (named of q xs)
one_more of q [] x = sym (or_none (cond (bytes_eq (of x) q) (Some x) None))
one_more {X} of q (y ∷ xs) x =
    ap (λ (o : Option X). option_or o (cond (bytes_eq (of y) q) (Some y) None)) (one_more of q xs x)
    ∙ or_or (cond (bytes_eq (of x) q) (Some x) None) (named of q xs) (cond (bytes_eq (of y) q) (Some y) None)

put : {X : Type 0} (numbers : X → Counters) (b : Bool) (x : X) (found : Option X) (first : Option Counters)
    → cond b (Some (numbers x)) (option_or (option_map numbers found) first)
    ≡ option_or (option_map numbers (option_or (cond b (Some x) None) found)) first
put numbers true x found first = refl
put numbers false x found first = refl

pub numbers_more : {X : Type 0} (of : X → List ℕ) (numbers : X → Counters) (first old new : BTreeMap (Bor (List ℕ)) Counters) (row : X)
    (value : Counters) (rows : List X) (i : ℕ) (key : List ℕ)
    → i < length rows → row ≡ get_or rows i row → key ≡ of row → value ≡ numbers row
    → UpdatesBy (λ x y. slice_cmp nat_cmp x.now y.now) (λ k. slice_cmp nat_cmp key k.now) old new (Some value)
    → ((q : List ℕ) → numbers_in old q ≡ option_or (option_map numbers (named of q (take i rows))) (numbers_in first q))
    → (q : List ℕ) → numbers_in new q ≡ option_or (option_map numbers (named of q (take (i + 1) rows))) (numbers_in first q)
numbers_more {X} of numbers first old new row value rows i key low is same value_is updates so_far q =
    btree_map_updates_str key old new (Some value) updates q
    ∙ ap (λ (k : List ℕ). cond (bytes_eq k q) (Some value) (numbers_in old q)) same
    ∙ ap (λ (v : Counters). cond (bytes_eq (of row) q) (Some v) (numbers_in old q)) value_is
    ∙ ap (cond (bytes_eq (of row) q) (Some (numbers row))) (so_far q)
    ∙ put numbers (bytes_eq (of row) q) row (named of q (take i rows)) (numbers_in first q)
    ∙ ap (λ (o : Option X). option_or (option_map numbers o) (numbers_in first q))
    (sym (ap (named of q) (take_more rows i row low ∙ ap (λ (x : X). take i rows ++ x ∷ []) (sym is)) ∙ one_more of q (take i rows) row))

-- the row of an address is the last one that is called so
named_is : (q : List ℕ) (rows : List AddressNumbers) → named (λ (row : AddressNumbers). row.address) q rows ≡ row_of q rows
named_is q [] = refl
named_is q (r ∷ rows) =
    ap (λ (o : Option AddressNumbers). option_or o (cond (bytes_eq r.address q) (Some r) None)) (named_is q rows)

left_or : (night : NightEntry) (found : Option AddressNumbers) (older : Option KnownRow)
    → option_or (option_map (λ (row : AddressNumbers). row.left) found) (option_map (λ (known : KnownRow). known.row.left) older)
    ≡ option_map (λ (known : KnownRow). known.row.left) (option_or (known_row night found) older)
left_or night None older = refl
left_or night (Some row) older = refl

night_added : (night : NightEntry) (older : List NightEntry) (q : List ℕ)
    → option_or (option_map (λ (row : AddressNumbers). row.left) (named (λ (row : AddressNumbers). row.address) q night.addresses))
    (numbers_left older q)
    ≡ numbers_left (night ∷ older) q
night_added night older q =
    ap (λ (o : Option AddressNumbers). option_or (option_map (λ (row : AddressNumbers). row.left) o) (numbers_left older q))
    (named_is q night.addresses)
    ∙ left_or night (row_of q night.addresses) (last_known q older)

newest_first : (nights : List NightEntry) (i : ℕ) (night : NightEntry) → i < length nights → night ≡ get_or nights i night
    → reverse (take (i + 1) nights) ≡ night ∷ reverse (take i nights)
newest_first nights i night low is =
    ap reverse (take_more nights i night low ∙ ap (λ (n : NightEntry). take i nights ++ n ∷ []) (sym is))
    ∙ reverse-append (take i nights) (night ∷ [])

-- one night more
pub nights_more : (nights : List NightEntry) (i : ℕ) (night : NightEntry) (rows : List AddressNumbers)
    (old new : BTreeMap (Bor (List ℕ)) Counters)
    → i < length nights → night ≡ get_or nights i night → rows ≡ night.addresses
    → ((q : List ℕ) → numbers_in new q ≡ option_or (option_map (λ (row : AddressNumbers). row.left)
    (named (λ (row : AddressNumbers). row.address) q rows)) (numbers_in old q))
    → ((q : List ℕ) → numbers_in old q ≡ numbers_left (reverse (take i nights)) q)
    → (q : List ℕ) → numbers_in new q ≡ numbers_left (reverse (take (i + 1) nights)) q
nights_more nights i night rows old new low is same added so_far q =
    added q
    ∙ ap (λ (rs : List AddressNumbers). option_or (option_map (λ (row : AddressNumbers). row.left)
    (named (λ (row : AddressNumbers). row.address) q rs)) (numbers_in old q)) same
    ∙ ap (option_or (option_map (λ (row : AddressNumbers). row.left) (named (λ (row : AddressNumbers). row.address) q night.addresses)))
    (so_far q)
    ∙ night_added night (reverse (take i nights)) q
    ∙ ap (λ (older : List NightEntry). numbers_left older q) (sym (newest_first nights i night low is))
