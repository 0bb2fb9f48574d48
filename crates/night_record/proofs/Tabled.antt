-- The rows of the two tables, and what they are read as.
use Rattle.std.proofs.Common.{◌≡◌, ◌∙◌, ℕ, ◌<◌, zero, suc, true, List, [], ◌∷◌, Some, None}
use Rattle.std.proofs.Common.{ap, ap₂, arith, get_or, length, map, refl, sym}
use Rattle.std.specs.Prelude.{decimal}
use Rattle.std.specs.List.{list_all}
use Rattle.std.proofs.lemmas.Bool.{and_parts, eqb-true}
use Rattle.std.proofs.lemmas.Fmt.{decimal_injective}
use Rattle.csv.specs.Machine.{Read, next_record}
use Rattle.csv.specs.Reading.{default_config}
use Rattle.csv.specs.Records.{field_at, fields_of}
use Rattle.csv.specs.declared.parser.State.TheVariants as st
use Rattle.csv.specs.declared.record.ByteRecord.{ByteRecord}
use Rattle.csv_fields.specs.Csv.{table_text}
use Rattle.hub_kinds.specs.declared.counters.Counters.{Counters}
use Rattle.night_record.specs.Rows.{field, is_wide, last_three}
use Rattle.night_record.specs.Tables.{address_row, are_counts, can_count, count_fields, taken_in, taken_row}
use Rattle.night_record.specs.Values.{is_count}
use Rattle.night_record.specs.declared.addresses.AddressNext.{AddressNext}
use Rattle.night_record.specs.declared.taken.TakenInterchange.{TakenInterchange}
use Rattle.night_record.proofs.Clean.{small_count}
use Rattle.night_record.proofs.ReadRows.{none, wide_run}

-- a table has its rows in one way
pub table_once : (rows other : List (List (List ℕ))) → list_all is_wide rows ≡ true → list_all is_wide other ≡ true
    → table_text rows ≡ table_text other → rows ≡ other
table_once [] [] wide other_wide same = refl
table_once [] (r ∷ rs) wide other_wide same =
    let some = wide_run r (table_text rs) ((and_parts (is_wide r) (list_all is_wide rs) other_wide).0) in
    let empty : next_record default_config st.StartRecord [] [] (table_text (r ∷ rs)) ≡ None =
    ap (λ (t : List ℕ). next_record default_config st.StartRecord [] [] t) (sym same) ∙ none in
    absurd (cc)
table_once (r ∷ rs) [] wide other_wide same =
    let some = wide_run r (table_text rs) ((and_parts (is_wide r) (list_all is_wide rs) wide).0) in
    let empty : next_record default_config st.StartRecord [] [] (table_text (r ∷ rs)) ≡ None =
    ap (λ (t : List ℕ). next_record default_config st.StartRecord [] [] t) same ∙ none in
    absurd (cc)
table_once (r ∷ rs) (s ∷ ss) wide other_wide same =
    let mine = and_parts (is_wide r) (list_all is_wide rs) wide in
    let theirs = and_parts (is_wide s) (list_all is_wide ss) other_wide in
    let p : Read = (r, st.AfterCr, 10 ∷ table_text rs) in
    let q : Read = (s, st.AfterCr, 10 ∷ table_text ss) in
    let one : Some p ≡ Some q =
    sym (wide_run r (table_text rs) mine.0) ∙ ap (λ (t : List ℕ). next_record default_config st.StartRecord [] [] t) same
    ∙ wide_run s (table_text ss) theirs.0 in
    let pair : p ≡ q = cc in
    let feed : 10 ∷ table_text rs ≡ 10 ∷ table_text ss = ap (λ (x : Read). x.2) pair in
    let tail : table_text rs ≡ table_text ss = cc in
    ap₂ (λ (x : List (List ℕ)) (l : List (List (List ℕ))). x ∷ l) (ap (λ (x : Read). x.0) pair)
    (table_once rs ss mine.1 theirs.1 tail)

-- a row of five fields is its fields
pub five_fields : (row : List (List ℕ)) → length row ≡ 5
    → row ≡ field row 0 ∷ field row 1 ∷ field row 2 ∷ field row 3 ∷ field row 4 ∷ []
unfolding field_at
five_fields [] long = absurd (omega (arith, long))
five_fields (a ∷ []) long = absurd (omega (arith, long))
five_fields (a ∷ b ∷ []) long = absurd (omega (arith, long))
five_fields (a ∷ b ∷ c ∷ []) long = absurd (omega (arith, long))
five_fields (a ∷ b ∷ c ∷ d ∷ []) long = absurd (omega (arith, long))
five_fields (a ∷ b ∷ c ∷ d ∷ e ∷ []) long = refl
five_fields (a ∷ b ∷ c ∷ d ∷ e ∷ f ∷ rest) long = absurd (omega (arith, long))

pub taken_rows_back : (rows : List (List (List ℕ))) → list_all is_wide rows ≡ true → map taken_row (map taken_in rows) ≡ rows
taken_rows_back [] wide = refl
taken_rows_back (r ∷ rs) wide =
    let two = and_parts (is_wide r) (list_all is_wide rs) wide in
    ap₂ (λ (x : List (List ℕ)) (l : List (List (List ℕ))). x ∷ l) (sym (five_fields r (eqb-true (length r) 5 two.0)))
    (taken_rows_back rs two.1)

pub taken_wide : (list : List TakenInterchange) → list_all is_wide (map taken_row list) ≡ true
taken_wide [] = refl
taken_wide (t ∷ ts) = taken_wide ts

pub address_wide : (list : List AddressNext) → list_all is_wide (map address_row list) ≡ true
address_wide [] = refl
address_wide (a ∷ as_) = address_wide as_

-- the numbers of an address are the last three fields of its row
pub last_of : (row : List (List ℕ)) (next : AddressNext) → row ≡ address_row next → last_three row ≡ count_fields next.next
unfolding field_at
last_of row next is = ap last_three is

pub record IsAddressRow (row : List (List ℕ)) : Type 0 where
  pub next : AddressNext
  pub can_be : can_count next ≡ true
  pub row_is : row ≡ address_row next

-- a row of addresses is that of an address
pub address_at : (rows : List ByteRecord) (list : List AddressNext) (i : ℕ) (x d : ByteRecord) → i < length rows → x ≡ get_or rows i d
    → map fields_of rows ≡ map address_row list → list_all can_count list ≡ true → IsAddressRow (fields_of x)
address_at [] list i x d low is same can = absurd (omega (arith, low))
address_at (r ∷ rs) [] i x d low is same can = absurd (cc)
address_at (r ∷ rs) (a ∷ as_) zero x d low is same can =
    let head : fields_of r ≡ address_row a = cc in
    record { next = a; can_be = (and_parts (can_count a) (list_all can_count as_) can).0; row_is = ap fields_of is ∙ head }
address_at (r ∷ rs) (a ∷ as_) (suc i) x d low is same can =
    let tail : map fields_of rs ≡ map address_row as_ = cc in
    address_at rs as_ i x d (omega (arith, low)) is tail ((and_parts (can_count a) (list_all can_count as_) can).1)

-- a row is that of one interchange, and of one address
pub taken_once : (list other : List TakenInterchange) → map taken_row list ≡ map taken_row other → list ≡ other
unfolding field_at
taken_once [] [] same = refl
taken_once [] (b ∷ bs) same = absurd (cc)
taken_once (a ∷ as_) [] same = absurd (cc)
taken_once (a ∷ as_) (b ∷ bs) same =
    let head : taken_row a ≡ taken_row b = cc in
    let tail : map taken_row as_ ≡ map taken_row bs = cc in
    ap₂ (λ (x : TakenInterchange) (l : List TakenInterchange). x ∷ l) (ap taken_in head) (taken_once as_ bs tail)

counts_once : (next other : Counters) → are_counts next ≡ true → are_counts other ≡ true → count_fields next ≡ count_fields other
    → next ≡ other
counts_once next other can other_can same =
    let mine = and_parts (is_count next.interchange) _ can in
    let theirs = and_parts (is_count other.interchange) _ other_can in
    let more = and_parts (is_count next.group) _ mine.1 in
    let others = and_parts (is_count other.group) _ theirs.1 in
    let i : decimal next.interchange ≡ decimal other.interchange = cc in
    let g : decimal next.group ≡ decimal other.group = cc in
    let s : decimal next.set ≡ decimal other.set = cc in
    three next other (number_is next.interchange other.interchange mine.0 theirs.0 i) (number_is next.group other.group more.0 others.0 g)
    (number_is next.set other.set more.1 others.1 s)
  where
    number_is : (n m : ℕ) → is_count n ≡ true → is_count m ≡ true → decimal n ≡ decimal m → n ≡ m
    number_is n m a b e =
        let low = small_count n a in
        let high = small_count m b in
        decimal_injective n m (omega arith) (omega arith) e

    three : (a b : Counters) → a.interchange ≡ b.interchange → a.group ≡ b.group → a.set ≡ b.set → a ≡ b
    three a b i g s =
        ap₂ (λ (x y : ℕ). let made : Counters = record { interchange = x; group = y; set = a.set } in made) i g
        ∙ ap (λ (z : ℕ). let made : Counters = record { interchange = b.interchange; group = b.group; set = z } in made) s

pub addresses_once : (list other : List AddressNext) → list_all can_count list ≡ true → list_all can_count other ≡ true
    → map address_row list ≡ map address_row other → list ≡ other
addresses_once [] [] can other_can same = refl
addresses_once [] (b ∷ bs) can other_can same = absurd (cc)
addresses_once (a ∷ as_) [] can other_can same = absurd (cc)
addresses_once (a ∷ as_) (b ∷ bs) can other_can same =
    let mine = and_parts (can_count a) (list_all can_count as_) can in
    let theirs = and_parts (can_count b) (list_all can_count bs) other_can in
    let head : address_row a ≡ address_row b = cc in
    let tail : map address_row as_ ≡ map address_row bs = cc in
    let q : a.qualifier ≡ b.qualifier = cc in
    let i : a.id ≡ b.id = cc in
    let n : count_fields a.next ≡ count_fields b.next = cc in
    ap₂ (λ (x : AddressNext) (l : List AddressNext). x ∷ l)
    (ap₂ (λ (x y : List ℕ). let made : AddressNext = record { qualifier = x; id = y; next = a.next } in made) q i
    ∙ ap (λ (z : Counters). let made : AddressNext = record { qualifier = b.qualifier; id = b.id; next = z } in made)
    (counts_once a.next b.next mine.0 theirs.0 n)) (addresses_once as_ bs mine.1 theirs.1 tail)
