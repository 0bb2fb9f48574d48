-- The records that are written of rows are read as these rows and no others.
use Rattle.std.proofs.Common.{◌≡◌, ◌==◌, ◌++◌, ◌∷◌, ◌∙◌, [], ℕ, List, Bool, Some, None, refl, sym, ap, subst, true, false}
use Rattle.std.proofs.Common.{append_assoc, inl, inr, ap₂}
use Rattle.std.specs.Prelude.{◌&&◌}
use Rattle.std.specs.List.{list_all}
use Rattle.std.proofs.lemmas.List.{append-nil}
use Rattle.std.proofs.lemmas.Bool.{cases_Bool, eqb-true}
use Rattle.csv.specs.Machine.{Read, next_record}
use Rattle.csv.specs.Reading.{AreRecords, Reached, default_config, strip_bom}
use Rattle.csv.specs.declared.parser.State.{State}
use Rattle.csv.specs.declared.parser.State.TheVariants as st
use Rattle.csv_fields.specs.Csv.{field_text, fields_text, is_text_data, quoted_bytes, record_text, table_text}
use Rattle.track_read.specs.Table.{is_wide}

not_true : (x : Bool) → (x ≡ true → ⊥) → x ≡ false
not_true true n = absurd (n refl)
not_true false n = refl

both : (a b : Bool) → (a && b) ≡ true → (a ≡ true) × (b ≡ true)
both true b e = (refl, e)
both false b e = absurd (cc)

-- a byte that needs no quotes is none of the marks of the format
not_byte : (b k : ℕ) → is_text_data b ≡ true → is_text_data k ≡ false → (b == k) ≡ false
not_byte b k e f =
    not_true (b == k) (λ t. (let is : is_text_data k ≡ true = subst (λ n. is_text_data n ≡ true) (eqb-true b k t) e in absurd (cc)))

-- the bytes of a field without quotes
plain_run : (fields : List (List ℕ)) (field x tail : List ℕ) → list_all is_text_data x ≡ true
    → next_record default_config st.InField fields field (x ++ tail) ≡ next_record default_config st.InField fields (field ++ x) tail
unfolding next_record
plain_run fields field [] tail e = rw (append-nil field) refl
plain_run fields field (b ∷ rest) tail e =
    let two = both (is_text_data b) (list_all is_text_data rest) e in
    rw (not_byte b 44 two.0 refl, not_byte b 13 two.0 refl, not_byte b 10 two.0 refl)
    (plain_run fields (field ++ (b ∷ [])) rest tail two.1
    ∙ ap (λ (f : List ℕ). next_record default_config st.InField fields f tail) (append_assoc field (b ∷ []) rest))

-- a byte other than a quote, between quotes
quoted_byte : (fields : List (List ℕ)) (field : List ℕ) (b : ℕ) (tail : List ℕ) → (b == 34) ≡ false
    → next_record default_config st.InQuoted fields field (b ∷ tail)
    ≡ next_record default_config st.InQuoted fields (field ++ (b ∷ [])) tail
unfolding next_record
quoted_byte fields field b tail n = rw n refl

quoted_once : (b : ℕ) (rest : List ℕ) → (b == 34) ≡ false → quoted_bytes (b ∷ rest) ≡ b ∷ quoted_bytes rest
quoted_once b rest n = rw n refl

-- the bytes of a field between quotes, and the quote that ends them
quoted_run : (fields : List (List ℕ)) (field x tail : List ℕ)
    → next_record default_config st.InQuoted fields field (quoted_bytes x ++ (34 ∷ tail))
    ≡ next_record default_config st.AfterQuote fields (field ++ x) tail
unfolding next_record
quoted_run fields field [] tail = rw (append-nil field) refl
quoted_run fields field (b ∷ rest) tail = elim (cases_Bool (b == 34)) [
  | inl same ↦
      subst (λ (z : ℕ). next_record default_config st.InQuoted fields field (quoted_bytes (z ∷ rest) ++ (34 ∷ tail))
      ≡ next_record default_config st.AfterQuote fields (field ++ (z ∷ rest)) tail) (sym (eqb-true b 34 same))
      (quoted_run fields (field ++ (34 ∷ [])) rest tail
      ∙ ap (λ (f : List ℕ). next_record default_config st.AfterQuote fields f tail) (append_assoc field (34 ∷ []) rest))
  | inr other ↦
      rw (quoted_once b rest other) (quoted_byte fields field b _ other
      ∙ quoted_run fields (field ++ (b ∷ [])) rest tail
      ∙ ap (λ (f : List ℕ). next_record default_config st.AfterQuote fields f tail) (append_assoc field (b ∷ []) rest))
]

-- a byte other than a quote does what it does in a field, also after a quote and at the start of a field
after_quote : (fields : List (List ℕ)) (field : List ℕ) (c : ℕ) (tail : List ℕ) → (c == 34) ≡ false
    → next_record default_config st.AfterQuote fields field (c ∷ tail) ≡ next_record default_config st.InField fields field (c ∷ tail)
unfolding next_record
after_quote fields field c tail n = rw n refl

field_start : (fields : List (List ℕ)) (field : List ℕ) (c : ℕ) (tail : List ℕ) → (c == 34) ≡ false
    → next_record default_config st.StartField fields field (c ∷ tail) ≡ next_record default_config st.InField fields field (c ∷ tail)
unfolding next_record
field_start fields field c tail n = rw n refl

-- a byte that ends no record starts one as it starts a field
record_start : (c : ℕ) (tail : List ℕ) → (c == 13) ≡ false → (c == 10) ≡ false
    → next_record default_config st.StartRecord [] [] (c ∷ tail) ≡ next_record default_config st.StartField [] [] (c ∷ tail)
unfolding next_record
record_start c tail r n = rw (r, n) refl

plain_start : (fields : List (List ℕ)) (x : List ℕ) (c : ℕ) (tail : List ℕ) → (c == 34) ≡ false → list_all is_text_data x ≡ true
    → next_record default_config st.StartField fields [] (x ++ (c ∷ tail)) ≡ next_record default_config st.InField fields x (c ∷ tail)
plain_start fields [] c tail n p = field_start fields [] c tail n
plain_start fields (b ∷ rest) c tail n p =
    field_start fields [] b (rest ++ (c ∷ tail)) (not_byte b 34 ((both (is_text_data b) (list_all is_text_data rest) p).0) refl)
    ∙ plain_run fields [] (b ∷ rest) (c ∷ tail) p

-- a field with what comes after it, which starts with no quote
field_run : (fields : List (List ℕ)) (x : List ℕ) (c : ℕ) (tail : List ℕ) → (c == 34) ≡ false
    → next_record default_config st.StartField fields [] (field_text x ++ (c ∷ tail))
    ≡ next_record default_config st.InField fields x (c ∷ tail)
unfolding next_record
field_run fields x c tail n = elim (cases_Bool (list_all is_text_data x)) [
  | inl plain ↦
      let text : field_text x ≡ x = rw plain refl in
      rw text (plain_start fields x c tail n plain)
  | inr needs ↦
      let text : field_text x ++ (c ∷ tail) ≡ 34 ∷ (quoted_bytes x ++ (34 ∷ c ∷ tail)) =
      rw needs (ap (λ (t : List ℕ). 34 ∷ t) (append_assoc (quoted_bytes x) (34 ∷ []) (c ∷ tail))) in
      rw text (quoted_run fields [] x (c ∷ tail) ∙ after_quote fields x c tail n)
]

-- a comma ends the field
end_field : (fields : List (List ℕ)) (x u : List ℕ)
    → next_record default_config st.InField fields x (44 ∷ u) ≡ next_record default_config st.StartField (fields ++ (x ∷ [])) [] u
unfolding next_record
end_field fields x u = refl

-- what comes after a field starts with no quote
abbrev head_of : List (List ℕ) → ℕ
head_of [] = 13
head_of (z ∷ zs) = 44

abbrev tail_of : List (List ℕ) → List ℕ → List ℕ
tail_of [] tail = 10 ∷ tail
tail_of (z ∷ zs) tail = (field_text z ++ fields_text zs) ++ (13 ∷ 10 ∷ tail)

text_head : (ys : List (List ℕ)) (tail : List ℕ) → fields_text ys ++ (13 ∷ 10 ∷ tail) ≡ head_of ys ∷ tail_of ys tail
text_head [] tail = refl
text_head (z ∷ zs) tail = refl

head_plain : (ys : List (List ℕ)) → (head_of ys == 34) ≡ false
head_plain [] = refl
head_plain (z ∷ zs) = refl

-- the rest of a record, after a field
rest_run : (fields : List (List ℕ)) (x : List ℕ) (rest : List (List ℕ)) (tail : List ℕ)
    → next_record default_config st.InField fields x (fields_text rest ++ (13 ∷ 10 ∷ tail))
    ≡ Some (fields ++ (x ∷ rest), st.AfterCr, 10 ∷ tail)
unfolding next_record
rest_run fields x [] tail = refl
rest_run fields x (y ∷ ys) tail =
    let e = text_head ys tail in
    let u : (field_text y ++ fields_text ys) ++ (13 ∷ 10 ∷ tail) ≡ field_text y ++ (head_of ys ∷ tail_of ys tail) =
    append_assoc (field_text y) (fields_text ys) (13 ∷ 10 ∷ tail) ∙ ap (λ (t : List ℕ). field_text y ++ t) e in
    let run = field_run (fields ++ (x ∷ [])) y (head_of ys) (tail_of ys tail) (head_plain ys) in
    let more = rest_run (fields ++ (x ∷ [])) y ys tail in
    let back = subst (λ (t : List ℕ). next_record default_config st.InField (fields ++ (x ∷ [])) y t
    ≡ Some ((fields ++ (x ∷ [])) ++ (y ∷ ys), st.AfterCr, 10 ∷ tail)) e more in
    rw (end_field fields x _, u) (run ∙ back ∙ rw (append_assoc fields (x ∷ []) (y ∷ ys)) refl)

-- a record of two fields or more starts as a field does, with no byte order mark
plain_first : (x : List ℕ) (tail : List ℕ) → list_all is_text_data x ≡ true
    → next_record default_config st.StartRecord [] [] (x ++ (44 ∷ tail)) ≡ next_record default_config st.StartField [] [] (x ++ (44 ∷ tail))
plain_first [] tail p = record_start 44 tail refl refl
plain_first (b ∷ rest) tail p =
    let one = (both (is_text_data b) (list_all is_text_data rest) p).0 in
    record_start b (rest ++ (44 ∷ tail)) (not_byte b 13 one refl) (not_byte b 10 one refl)

first_field : (x : List ℕ) (tail : List ℕ)
    → next_record default_config st.StartRecord [] [] (field_text x ++ (44 ∷ tail))
    ≡ next_record default_config st.StartField [] [] (field_text x ++ (44 ∷ tail))
first_field x tail = elim (cases_Bool (list_all is_text_data x)) [
  | inl plain ↦ rw plain (plain_first x tail plain)
  | inr needs ↦ rw needs (record_start 34 _ refl refl)
]

record_parts : (x : List ℕ) (ys : List (List ℕ)) (tail : List ℕ)
    → record_text (x ∷ ys) ++ tail ≡ field_text x ++ (fields_text ys ++ (13 ∷ 10 ∷ tail))
record_parts x ys tail =
    append_assoc (field_text x ++ fields_text ys) (13 ∷ 10 ∷ []) tail ∙ append_assoc (field_text x) (fields_text ys) (13 ∷ 10 ∷ tail)

record_run : (x y : List ℕ) (ys : List (List ℕ)) (tail : List ℕ)
    → next_record default_config st.StartRecord [] [] (record_text (x ∷ y ∷ ys) ++ tail) ≡ Some (x ∷ y ∷ ys, st.AfterCr, 10 ∷ tail)
record_run x y ys tail =
    let e = text_head (y ∷ ys) tail in
    let run = field_run [] x 44 (tail_of (y ∷ ys) tail) refl in
    let more = subst (λ (t : List ℕ). next_record default_config st.InField [] x t ≡ Some ([] ++ (x ∷ y ∷ ys), st.AfterCr, 10 ∷ tail)) e
    (rest_run [] x (y ∷ ys) tail) in
    rw (record_parts x (y ∷ ys) tail, e) (first_field x (tail_of (y ∷ ys) tail) ∙ run ∙ more)

-- the line feed after a record is passed over
line_feed : (t : List ℕ)
    → next_record default_config st.AfterCr [] [] (10 ∷ t) ≡ next_record default_config st.StartRecord [] [] t
unfolding next_record
line_feed t = refl

wide_run : (row : List (List ℕ)) (tail : List ℕ) → is_wide row ≡ true
    → next_record default_config st.StartRecord [] [] (record_text row ++ tail) ≡ Some (row, st.AfterCr, 10 ∷ tail)
wide_run [] tail wide = absurd (cc)
wide_run (x ∷ []) tail wide = absurd (cc)
wide_run (x ∷ y ∷ ys) tail wide = record_run x y ys tail

none : next_record default_config st.StartRecord [] [] [] ≡ None
unfolding next_record
none = refl

same_rows : (rows read : List (List (List ℕ))) (s s2 : State) (xs ys : List ℕ) → list_all is_wide rows ≡ true
    → next_record default_config s [] [] xs ≡ next_record default_config st.StartRecord [] [] (table_text rows)
    → Reached default_config s xs read s2 ys → next_record default_config s2 [] [] ys ≡ None → read ≡ rows
unfolding Reached
same_rows [] [] s s2 xs ys wide from reached ends = refl
same_rows [] (r ∷ rs) s s2 xs ys wide from reached ends =
    let p : Read = reached.0 in
    let some : next_record default_config s [] [] xs ≡ Some p = reached.1 in
    let empty : next_record default_config s [] [] xs ≡ None = from ∙ none in
    absurd (cc)
same_rows (row ∷ rows) [] s s2 xs ys wide from reached ends =
    let empty : next_record default_config s [] [] xs ≡ None =
    subst (λ (z : State). next_record default_config z [] [] xs ≡ None) (sym reached.0)
    (subst (λ (z : List ℕ). next_record default_config s2 [] [] z ≡ None) (sym reached.1) ends) in
    let some : next_record default_config s [] [] xs ≡ Some (row, st.AfterCr, 10 ∷ table_text rows) =
    from ∙ wide_run row (table_text rows) ((both (is_wide row) (list_all is_wide rows) wide).0) in
    absurd (cc)
same_rows (row ∷ rows) (r ∷ rs) s s2 xs ys wide from reached ends =
    let two = both (is_wide row) (list_all is_wide rows) wide in
    let p : Read = reached.0 in
    let next : Read = (row, st.AfterCr, 10 ∷ table_text rows) in
    let first : next_record default_config s [] [] xs ≡ Some p = reached.1 in
    let second : next_record default_config s [] [] xs ≡ Some next = from ∙ wide_run row (table_text rows) two.0 in
    let some : Some p ≡ Some next = sym first ∙ second in
    let same : p ≡ next = cc in
    let rest : Reached default_config st.AfterCr (10 ∷ table_text rows) rs s2 ys =
    subst (λ (q : Read). Reached default_config q.1 q.2 rs s2 ys) same reached.3 in
    ap₂ (λ (x : List (List ℕ)) (l : List (List (List ℕ))). x ∷ l) (reached.2 ∙ ap (λ (q : Read). q.0) same)
    (same_rows rows rs st.AfterCr s2 (10 ∷ table_text rows) ys two.1 (line_feed (table_text rows)) rest ends)

no_mark : (b : ℕ) (t : List ℕ) → (b == 239) ≡ false → strip_bom (b ∷ t) ≡ b ∷ t
unfolding strip_bom
no_mark b [] n = refl
no_mark b (x ∷ []) n = refl
no_mark b (x ∷ y ∷ t) n = rw n refl

no_mark_first : (x tail : List ℕ) → strip_bom (field_text x ++ (44 ∷ tail)) ≡ field_text x ++ (44 ∷ tail)
no_mark_first x tail = elim (cases_Bool (list_all is_text_data x)) [
  | inl plain ↦ rw plain (plain_mark x plain)
  | inr needs ↦ rw needs (no_mark 34 _ refl)
]
  where
    plain_mark : (x : List ℕ) → list_all is_text_data x ≡ true → strip_bom (x ++ (44 ∷ tail)) ≡ x ++ (44 ∷ tail)
    plain_mark [] p = no_mark 44 tail refl
    plain_mark (b ∷ rest) p =
        no_mark b (rest ++ (44 ∷ tail)) (not_byte b 239 ((both (is_text_data b) (list_all is_text_data rest) p).0) refl)

no_mark_rows : (rows : List (List (List ℕ))) → list_all is_wide rows ≡ true → strip_bom (table_text rows) ≡ table_text rows
unfolding strip_bom
no_mark_rows [] wide = refl
no_mark_rows ([] ∷ rows) wide = absurd (cc)
no_mark_rows ((x ∷ []) ∷ rows) wide = absurd (cc)
no_mark_rows ((x ∷ y ∷ ys) ∷ rows) wide =
    subst (λ (t : List ℕ). strip_bom t ≡ t)
    (sym (record_parts x (y ∷ ys) (table_text rows) ∙ ap (λ (t : List ℕ). field_text x ++ t) (text_head (y ∷ ys) (table_text rows))))
    (no_mark_first x (tail_of (y ∷ ys) (table_text rows)))

-- the records that a reader found in the text of rows are the rows
pub read_back : (rows read : List (List (List ℕ))) (text : List ℕ) → text ≡ table_text rows → list_all is_wide rows ≡ true
    → AreRecords default_config st.StartRecord (strip_bom text) read → read ≡ rows
read_back rows read text is wide are =
    let bare : strip_bom text ≡ table_text rows = ap strip_bom is ∙ no_mark_rows rows wide in
    same_rows rows read st.StartRecord are.0 (strip_bom text) are.1 wide
    (ap (λ (t : List ℕ). next_record default_config st.StartRecord [] [] t) bare) are.2 are.3
