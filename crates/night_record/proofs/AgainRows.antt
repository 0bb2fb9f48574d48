-- The rows of the sets that a night was asked for again, and what they are read as.
use Rattle.std.proofs.Common.{◌≡◌, ℕ, true, List, [], ◌∷◌, ◌++◌, ap, ap₂, length, map, refl, sym}
use Rattle.std.specs.List.{list_all}
use Rattle.std.proofs.lemmas.Bool.{and_parts, eqb-true}
use Rattle.std.proofs.lemmas.List.{append_cancel_left}
use Rattle.csv.specs.Records.{field_at}
use Rattle.csv_fields.specs.Csv.{table_text}
use Rattle.night_record.specs.Again.{again_columns, again_in, again_row, again_text}
use Rattle.night_record.specs.Rows.{is_wide}
use Rattle.night_record.specs.declared.again.AgainSet.{AgainSet}
use Rattle.night_record.proofs.Tabled.{five_fields, table_once}

pub again_rows_back : (rows : List (List (List ℕ))) → list_all is_wide rows ≡ true → map again_row (map again_in rows) ≡ rows
again_rows_back [] wide = refl
again_rows_back (r ∷ rs) wide =
    let two = and_parts (is_wide r) (list_all is_wide rs) wide in
    ap₂ (λ (x : List (List ℕ)) (l : List (List (List ℕ))). x ∷ l) (sym (five_fields r (eqb-true (length r) 5 two.0)))
    (again_rows_back rs two.1)

pub again_wide : (list : List AgainSet) → list_all is_wide (map again_row list) ≡ true
again_wide [] = refl
again_wide (s ∷ ss) = again_wide ss

again_once : (list other : List AgainSet) → map again_row list ≡ map again_row other → list ≡ other
unfolding field_at
again_once [] [] same = refl
again_once [] (b ∷ bs) same = absurd (cc)
again_once (a ∷ as_) [] same = absurd (cc)
again_once (a ∷ as_) (b ∷ bs) same =
    let head : again_row a ≡ again_row b = cc in
    let tail : map again_row as_ ≡ map again_row bs = cc in
    ap₂ (λ (x : AgainSet) (l : List AgainSet). x ∷ l) (ap again_in head) (again_once as_ bs tail)

-- columns are some bytes
pub some_columns : (rest : List ℕ) → [] ≡ again_columns ++ rest → ⊥
some_columns rest is = cc

pub text_once : (list other : List AgainSet) → again_text list ≡ again_text other → list ≡ other
text_once [] [] same = refl
text_once [] (b ∷ bs) same = absurd (some_columns (table_text (map again_row (b ∷ bs))) same)
text_once (a ∷ as_) [] same = absurd (some_columns (table_text (map again_row (a ∷ as_))) (sym same))
text_once (a ∷ as_) (b ∷ bs) same =
    again_once (a ∷ as_) (b ∷ bs)
    (table_once (map again_row (a ∷ as_)) (map again_row (b ∷ bs)) (again_wide (a ∷ as_)) (again_wide (b ∷ bs))
    (append_cancel_left again_columns (table_text (map again_row (a ∷ as_))) (table_text (map again_row (b ∷ bs))) same))

-- the rows of a table that has columns
pub rows_are : (rest : List ℕ) (list : List AgainSet) → again_columns ++ rest ≡ again_text list → rest ≡ table_text (map again_row list)
rows_are rest [] same = absurd (some_columns rest (sym same))
rows_are rest (s ∷ ss) same = append_cancel_left again_columns rest (table_text (map again_row (s ∷ ss))) same

-- the table of some rows
pub filled : (list : List AgainSet) → (list ≡ [] → ⊥) → again_text list ≡ again_columns ++ table_text (map again_row list)
filled [] some = absurd (some refl)
filled (s ∷ ss) some = refl
