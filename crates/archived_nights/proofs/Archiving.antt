-- Nights after those that are archived, and after the entry of these.
use Rattle.std.proofs.Common.{◌≡◌, ◌↔◌, ◌||◌, ℕ, Bool, true, false, List, [], ◌∷◌, ◌++◌, Option, Some, None, IfSome, refl, sym, ap}
use Rattle.std.proofs.Common.{◌∙◌}
use Rattle.std.specs.List.{AllByRecursion}
use Rattle.std.specs.Option.{option_or}
use Rattle.std.specs.Str.{bytes_eq}
use Rattle.std.proofs.lemmas.List.Folds.{list_any-append}
use Rattle.hub_kinds.specs.declared.counters.Counters.{Counters}
use Rattle.hub_kinds.specs.Words.{contains_text}
use Rattle.hub_ledger.specs.declared.entry.AddressNumbers.{AddressNumbers}
use Rattle.hub_ledger.specs.declared.entry.NightEntry.{NightEntry}
use Rattle.archived_nights.specs.Archived.{IsArchiveOf, left_in, left_of}
use Rattle.hub_ledger.specs.Entries.{BeginsWhereLeft, GoOn, GoesOn, KnownRow, keys_of, known_row, last_known, row_of}

-- two lists of nights of which a later one asks the same
pub record AreAlike (a b : List NightEntry) : Type 0 where
  pub delivered : (key : List ℕ) → contains_text (keys_of a) key ≡ contains_text (keys_of b) key
  pub left : (address : List ℕ) → left_of (last_known address a) ≡ left_of (last_known address b)

either : (night : NightEntry) (row : Option AddressNumbers) (a b : Option KnownRow) → left_of a ≡ left_of b
    → left_of (option_or (known_row night row) a) ≡ left_of (option_or (known_row night row) b)
either night None a b same = same
either night (Some row) a b same = refl

pub alike_more : (night : NightEntry) (a b : List NightEntry) → AreAlike a b → AreAlike (night ∷ a) (night ∷ b)
alike_more night a b alike = record {
  delivered = λ key. list_any-append (λ t. bytes_eq t key) night.delivered (keys_of a)
      ∙ ap (λ (x : Bool). contains_text night.delivered key || x) (alike.delivered key)
      ∙ sym (list_any-append (λ t. bytes_eq t key) night.delivered (keys_of b));
  left = λ address. either night (row_of address night.addresses) (last_known address a) (last_known address b) (alike.left address);
}

begins : (a b : Option KnownRow) (begun : Counters) → left_of a ≡ left_of b → IfSome a (λ known. begun ≡ known.row.left)
    → IfSome b (λ known. begun ≡ known.row.left)
begins a None begun same h = tt
begins None (Some k) begun same h = absurd (cc)
begins (Some j) (Some k) begun same h = h ∙ left_same j k same
  where
    left_same : (j k : KnownRow) → left_of (Some j) ≡ left_of (Some k) → j.row.left ≡ k.row.left
    left_same j k same = cc

rows : (a b : List NightEntry) → AreAlike a b → (rs : List AddressNumbers) → AllByRecursion (BeginsWhereLeft a) rs
    → AllByRecursion (BeginsWhereLeft b) rs
rows a b alike [] all = tt
rows a b alike (r ∷ rs) all =
    (begins (last_known r.address a) (last_known r.address b) r.begun (alike.left r.address) all.0, rows a b alike rs all.1)

pub goes_on_alike : (a b : List NightEntry) (night : NightEntry) → AreAlike a b → GoesOn a night → GoesOn b night
goes_on_alike a b night alike go = record {
  keys = λ key has. sym (alike.delivered key) ∙ go.keys key has;
  numbers = rows a b alike night.addresses go.numbers;
}

pub alike_back : (a b : List NightEntry) → AreAlike a b → AreAlike b a
alike_back a b alike = record { delivered = λ key. sym (alike.delivered key); left = λ address. sym (alike.left address) }

-- the entry alone
or_none : (b : Bool) → (b || false) ≡ b
or_none true = refl
or_none false = refl

of_row : (night : NightEntry) (row : Option AddressNumbers) → left_of (option_or (known_row night row) None) ≡ left_in row
of_row night None = refl
of_row night (Some row) = refl

pub alike_archive : (nights : List NightEntry) (entry : NightEntry) → IsArchiveOf nights entry → AreAlike nights (entry ∷ [])
alike_archive nights entry archive = record {
  delivered = λ key. sym (list_any-append (λ t. bytes_eq t key) entry.delivered [] ∙ or_none (contains_text entry.delivered key)
      ∙ archive.delivered key);
  left = λ address. sym (of_row entry (row_of address entry.addresses) ∙ archive.left address);
}

free_rows : (rs : List AddressNumbers) → AllByRecursion (BeginsWhereLeft []) rs
free_rows [] = tt
free_rows (r ∷ rs) = (tt, free_rows rs)

-- a first night continues from none
pub first_goes_on : (entry : NightEntry) → GoOn (entry ∷ [])
first_goes_on entry = (record { keys = λ key has. refl; numbers = free_rows entry.addresses }, tt)

pub alike_all : (newer a b : List NightEntry) → AreAlike a b → AreAlike (newer ++ a) (newer ++ b)
alike_all [] a b alike = alike
alike_all (night ∷ newer) a b alike = alike_more night (newer ++ a) (newer ++ b) (alike_all newer a b alike)

goes : (newer a b : List NightEntry) → AreAlike a b → GoOn b → GoOn (newer ++ a) → GoOn (newer ++ b)
goes [] a b alike base go = base
goes (night ∷ newer) a b alike base go =
    (goes_on_alike (newer ++ a) (newer ++ b) night (alike_all newer a b alike) go.0, goes newer a b alike base go.1)

pub archive_goes_on : (newer nights : List NightEntry) (entry : NightEntry) → IsArchiveOf nights entry → GoOn nights
    → GoOn (newer ++ nights) ↔ GoOn (newer ++ entry ∷ [])
archive_goes_on newer nights entry archive base =
    let alike = alike_archive nights entry archive in (
      goes newer nights (entry ∷ []) alike (first_goes_on entry),
      goes newer (entry ∷ []) nights (alike_back nights (entry ∷ []) alike) base,
    )
