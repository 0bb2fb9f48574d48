-- A value of which a flat row is sure has no fault by the row: kind by kind.
use Rattle.std.proofs.Common.{◌≡◌, ℕ, zero, suc, ◌+◌, ◌-◌, ◌<◌, ◌≤◌, ◌==◌, ◌∙◌, length, List, [], ◌∷◌, ◌++◌, map, take, drop, Bool, true}
use Rattle.std.proofs.Common.{false, ◌&&◌, ltb, if◌then◌else◌}
use Rattle.std.proofs.Common.{refl, sym, ap, arith}
use Rattle.std.specs.Prelude.{Some, None, ◌||◌, not, nat_le}
use Rattle.std.specs.List.{list_all, list_any, count_by}
use Rattle.std.specs.Option.{option_or}
use Rattle.std.specs.Char.{is_ascii_digit}
use Rattle.std.specs.Str.{bytes_eq}
use Rattle.std.specs.Cmp.Derive.{both_true}
use Rattle.std.proofs.lemmas.Bool.{eqb-true, lt-ltb, ltb-true, leb-true, le-leb, le-ltb}
use Rattle.std.proofs.Math.Seq.{drop-append_seam, take-append_seam}
use Rattle.std.proofs.Common.{append_assoc, append-nil}
use Rattle.std.proofs.lemmas.Slice.Eq.{bytes_eq-Decides}
use Rattle.hub_kinds.specs.Words.{contains_text}
use Rattle.guide_tree.specs.declared.element.CodeList.{CodeList}
use Rattle.guide_tree.specs.declared.element.ElementType.{ElementType}
use Rattle.guide_tree.specs.declared.element.ElementType.TheVariants.{Text, Identifier, Number, Decimal, Date, Time}
use Rattle.guide_tree.specs.declared.element.SimpleRow.{SimpleRow}
use Rattle.moment.specs.Calendar.{is_date, is_time}
use Rattle.moment.proofs.ForAbove.{both}
use Rattle.elem_rules.specs.declared.flat_row.FlatKind.TheVariants as kind
use Rattle.elem_rules.specs.declared.flat_row.FlatRow.{FlatRow}
use Rattle.elem_rules.specs.Clean.{has_plain_form, has_used_code, is_plain_value, is_strange}
use Rattle.elem_rules.specs.Flat.{are_bytes, joined, packed, code_number, is_length, is_listed, is_sure_by, kind_of, IsGrown}
use Rattle.elem_rules.specs.Values.{calendar_fault, code_fault, is_decimal, is_form, is_point, is_whole, without_sign, value_fault}
use Rattle.elem_rules.specs.Values.{value_length}
use Rattle.elem_rules.proofs.PlainValues.{plain_good}

pub all_bytes : (a b c : ℕ) → a < 256 → b < 256 → c < 256 → are_bytes a b c ≡ true
all_bytes a b c p q r = rw (lt-ltb a 256 p, lt-ltb b 256 q, lt-ltb c 256 r) refl

-- what a number that isn't 0 was joined from
abbrev IsJoined : (length a b c : ℕ) → Type 0
IsJoined length a b c = (a < 256) × (b < 256) × (c < 256) × (packed length a b c ≡ joined length a b c)

parted : (n a b c : ℕ) → (packed n a b c ≡ 0 → ⊥) → IsJoined n a b c
parted n a b c some =
    let all = by (ltb a 256) (ltb b 256) (ltb c 256) (joined n a b c) some in
    (ltb-true a 256 all.0, ltb-true b 256 all.1, ltb-true c 256 all.2, all.3) where
      by : (x y z : Bool) (m : ℕ) → ((if x && (y && z) then m else 0) ≡ 0 → ⊥)
          → (x ≡ true) × (y ≡ true) × (z ≡ true) × ((if x && (y && z) then m else 0) ≡ m)
      by true true true m some = (refl, refl, refl, refl)
      by true true false m some = absurd (some refl)
      by true false z m some = absurd (some refl)
      by false y z m some = absurd (some refl)

-- equal numbers that aren't 0 were joined from the same
same_parts : (n a b c m k l o : ℕ) → packed n a b c ≡ packed m k l o → (packed n a b c ≡ 0 → ⊥)
    → (n ≡ m) × (a ≡ k) × (b ≡ l) × (c ≡ o)
same_parts n a b c m k l o e some =
    let p = parted n a b c some in
    let q = parted m k l o (λ z. some (e ∙ z)) in
    let j : joined n a b c ≡ joined m k l o = sym p.3 ∙ e ∙ q.3 in
    let s : a ≡ k = omega (arith, j, p.0, q.0) in
    let t : b ≡ l = omega (arith, j, s, p.1, q.1) in
    let u : c ≡ o = omega (arith, j, s, t, p.2, q.2) in
    let v : n ≡ m = omega (arith, j, s, t, u) in
    (v, s, t, u)

pub same_code : (x y : List ℕ) → code_number x ≡ code_number y → (code_number x ≡ 0 → ⊥) → x ≡ y
same_code [] y e some = absurd (some refl)
same_code (a ∷ b ∷ c ∷ d ∷ rest) y e some = absurd (some refl)
same_code (a ∷ []) [] e some = absurd (some e)
same_code (a ∷ b ∷ []) [] e some = absurd (some e)
same_code (a ∷ b ∷ c ∷ []) [] e some = absurd (some e)
same_code (a ∷ []) (k ∷ l ∷ m ∷ n ∷ rest) e some = absurd (some e)
same_code (a ∷ b ∷ []) (k ∷ l ∷ m ∷ n ∷ rest) e some = absurd (some e)
same_code (a ∷ b ∷ c ∷ []) (k ∷ l ∷ m ∷ n ∷ rest) e some = absurd (some e)
same_code (a ∷ []) (k ∷ []) e some =
    let is = same_parts 1 a 0 0 1 k 0 0 e some in ap (λ (n : ℕ). n ∷ []) is.1
same_code (a ∷ []) (k ∷ l ∷ []) e some =
    let is = same_parts 1 a 0 0 2 k l 0 e some in absurd (omega (arith, is.0))
same_code (a ∷ []) (k ∷ l ∷ m ∷ []) e some =
    let is = same_parts 1 a 0 0 3 k l m e some in absurd (omega (arith, is.0))
same_code (a ∷ b ∷ []) (k ∷ []) e some =
    let is = same_parts 2 a b 0 1 k 0 0 e some in absurd (omega (arith, is.0))
same_code (a ∷ b ∷ []) (k ∷ l ∷ []) e some =
    let is = same_parts 2 a b 0 2 k l 0 e some in ap (λ (n : ℕ). n ∷ b ∷ []) is.1 ∙ ap (λ (n : ℕ). k ∷ n ∷ []) is.2
same_code (a ∷ b ∷ []) (k ∷ l ∷ m ∷ []) e some =
    let is = same_parts 2 a b 0 3 k l m e some in absurd (omega (arith, is.0))
same_code (a ∷ b ∷ c ∷ []) (k ∷ []) e some =
    let is = same_parts 3 a b c 1 k 0 0 e some in absurd (omega (arith, is.0))
same_code (a ∷ b ∷ c ∷ []) (k ∷ l ∷ []) e some =
    let is = same_parts 3 a b c 2 k l 0 e some in absurd (omega (arith, is.0))
same_code (a ∷ b ∷ c ∷ []) (k ∷ l ∷ m ∷ []) e some =
    let is = same_parts 3 a b c 3 k l m e some in
    ap (λ (n : ℕ). n ∷ b ∷ c ∷ []) is.1 ∙ ap (λ (n : ℕ). k ∷ n ∷ c ∷ []) is.2 ∙ ap (λ (n : ℕ). k ∷ l ∷ n ∷ []) is.3

-- lengths
pub within_span : (flat : FlatRow) (row : SimpleRow) (n : ℕ) → flat.least ≡ row.min → flat.span ≡ row.max - row.min → row.min ≤ row.max
    → is_length flat n ≡ true → (row.min ≤ n) × (n ≤ row.max)
within_span flat row n least span order h =
    let e = both (nat_le flat.least n) (nat_le n (flat.least + flat.span)) h in
    let a = leb-true flat.least n e.0 in
    let b = leb-true n (flat.least + flat.span) e.1 in
    (omega (arith, least, a), omega (arith, least, span, order, b))

plain_if : (flat : FlatRow) (row : SimpleRow) (text : List ℕ) → flat.least ≡ row.min → flat.span ≡ row.max - row.min → row.min ≤ row.max
    → is_length flat (length text) ≡ true → has_used_code row.codes text ≡ true → has_plain_form row.data_type text ≡ true
    → is_plain_value row text ≡ true
plain_if flat row text least span order long code form =
    let w = within_span flat row (length text) least span order long in
    both_true (both_true (both_true (le-leb row.min (length text) w.0) (le-leb (length text) row.max w.1)) code) form

-- a decimal number that is seen to be one has no sign
no_sign : (x : ℕ) → (is_ascii_digit x || is_point x) ≡ true → (x == 45) ≡ false
no_sign x h = by (x == 45) refl where
  by : (b : Bool) → (x == 45) ≡ b → b ≡ false
  by true e =
      let no : false ≡ true = ap (λ (y : ℕ). is_ascii_digit y || is_point y) (sym (eqb-true x 45 e)) ∙ h in
      cc
  by false e = refl

signless : (text : List ℕ) → list_all (λ byte. is_ascii_digit byte || is_point byte) text ≡ true → without_sign text ≡ text
signless [] h = refl
signless (x ∷ xs) h =
    ap (λ b. if b then xs else x ∷ xs)
    (no_sign x (both (is_ascii_digit x || is_point x) (list_all (λ byte. is_ascii_digit byte || is_point byte) xs) h).0)

decimal_form : (text : List ℕ) → is_decimal text ≡ true → is_decimal (without_sign text) ≡ true
decimal_form text h =
    let points = list_all (λ byte. is_ascii_digit byte || is_point byte) text in
    let few = nat_le (count_by is_point text) 1 in
    let a = both (points && few) (list_any is_ascii_digit text) h in
    ap is_decimal (signless text (both points few a.0).0) ∙ h

-- a value of the form, the length, the codes and the calendar of its row
good_from : (row : SimpleRow) (text : List ℕ) → is_form row.data_type row.wide text ≡ true → row.min ≤ value_length row.data_type text
    → value_length row.data_type text ≤ row.max → code_fault row.codes text ≡ None → calendar_fault row.data_type text ≡ None
    → value_fault row text ≡ None
good_from row text form low high code day =
    rw (form, le-ltb (value_length row.data_type text) row.min low, le-ltb row.max (value_length row.data_type text) high)
    (ap (λ fault. option_or fault (calendar_fault row.data_type text)) code ∙ day)

-- a row without codes, by the type of its element
pub sure_typed : (t : ElementType) (flat : FlatRow) (row : SimpleRow) (numbers text : List ℕ) → row.data_type ≡ t → row.codes ≡ None
    → flat.least ≡ row.min → flat.span ≡ row.max - row.min → row.min ≤ row.max → list_any is_strange text ≡ false
    → is_sure_by (kind_of t) flat numbers text ≡ true → value_fault row text ≡ None
sure_typed Text flat row numbers text is none least span order narrow h =
    plain_good row text (plain_if flat row text least span order h (ap (λ o. has_used_code o text) none)
    (ap (λ t. has_plain_form t text) is)) narrow
sure_typed Identifier flat row numbers text is none least span order narrow h =
    plain_good row text (plain_if flat row text least span order h (ap (λ o. has_used_code o text) none)
    (ap (λ t. has_plain_form t text) is)) narrow
sure_typed (Number places) flat row numbers text is none least span order narrow h =
    let e = both (is_length flat (length text)) (is_whole text) h in
    plain_good row text (plain_if flat row text least span order e.0 (ap (λ o. has_used_code o text) none)
    (ap (λ t. has_plain_form t text) is ∙ e.1)) narrow
sure_typed Date flat row numbers text is none least span order narrow h =
    let e = both (is_length flat (length text)) (is_date text) h in
    plain_good row text (plain_if flat row text least span order e.0 (ap (λ o. has_used_code o text) none)
    (ap (λ t. has_plain_form t text) is ∙ e.1)) narrow
sure_typed Time flat row numbers text is none least span order narrow h =
    let e = both (is_length flat (length text)) (is_time text) h in
    plain_good row text (plain_if flat row text least span order e.0 (ap (λ o. has_used_code o text) none)
    (ap (λ t. has_plain_form t text) is ∙ e.1)) narrow
sure_typed Decimal flat row numbers text is none least span order narrow h =
    let e = both (is_decimal text) (is_length flat (count_by is_ascii_digit text)) h in
    let w = within_span flat row (count_by is_ascii_digit text) least span order e.1 in
    let n : value_length row.data_type text ≡ count_by is_ascii_digit text = ap (λ t. value_length t text) is in
    good_from row text (ap (λ t. is_form t row.wide text) is ∙ decimal_form text e.0) (omega (arith, n, w.0)) (omega (arith, n, w.1))
    (ap (λ o. code_fault o text) none) (ap (λ t. calendar_fault t text) is)

-- a code whose number is listed
either : (a b : Bool) → (a || b) ≡ true → (a ≡ false → b ≡ true)
either true b h z = cc
either false b h z = h

right_one : (a b : Bool) → b ≡ true → (a || b) ≡ true
right_one true b h = refl
right_one false b h = h

code_there : (codes : List (List ℕ)) (text : List ℕ) → (code_number text ≡ 0 → ⊥)
    → list_any (λ n. n == code_number text) (map code_number codes) ≡ true → contains_text codes text ≡ true
code_there [] text some h = cc
code_there (code ∷ codes) text some h = by (code_number code == code_number text) refl (code_there codes text some) where
  by : (b : Bool) → (code_number code == code_number text) ≡ b
      → (list_any (λ n. n == code_number text) (map code_number codes) ≡ true → contains_text codes text ≡ true)
      → contains_text (code ∷ codes) text ≡ true
  by true e others =
      let same : code_number code ≡ code_number text = eqb-true (code_number code) (code_number text) e in
      let is : code ≡ text = same_code code text same (λ z. some (sym same ∙ z)) in
      ap (λ b. b || contains_text codes text) ((bytes_eq-Decides code text).1 is)
  by false e others = right_one (bytes_eq code text) (contains_text codes text) (others
      (either (code_number code == code_number text) (list_any (λ n. n == code_number text) (map code_number codes)) h e))

some_number : (n : ℕ) → not (n == 0) ≡ true → n ≡ 0 → ⊥
some_number zero h e = absurd cc
some_number (suc n) h e = absurd (omega (arith, e))

own_numbers : (flat : FlatRow) (old own more : List ℕ) → flat.from ≡ length old → flat.count ≡ length own
    → take flat.count (drop flat.from ((old ++ own) ++ more)) ≡ own
own_numbers flat old own more from count =
    ap (λ (n : ℕ). take flat.count (drop n ((old ++ own) ++ more))) from
    ∙ ap (λ l. take flat.count (drop (length old) l)) (append_assoc old own more)
    ∙ ap (λ l. take flat.count l) (drop-append_seam old (own ++ more))
    ∙ ap (λ (n : ℕ). take n (own ++ more)) count ∙ take-append_seam own more

-- a row with codes
pub sure_listed : (flat : FlatRow) (row : SimpleRow) (listed : CodeList) (old more text : List ℕ) → row.codes ≡ Some listed
    → kind_of row.data_type ≡ kind.Any → flat.from ≡ length old → flat.count ≡ length (map code_number listed.used)
    → flat.least ≡ row.min → flat.span ≡ row.max - row.min → row.min ≤ row.max → list_any is_strange text ≡ false
    → is_sure_by kind.Listed flat ((old ++ map code_number listed.used) ++ more) text ≡ true → value_fault row text ≡ None
sure_listed flat row listed old more text are any from count least span order narrow h =
    let numbers = (old ++ map code_number listed.used) ++ more in
    let e = both (is_length flat (length text)) (is_listed flat numbers text) h in
    let f = both (not (code_number text == 0)) (list_any (λ n. n == code_number text) (take flat.count (drop flat.from numbers))) e.1 in
    let own = own_numbers flat old (map code_number listed.used) more from count in
    let there = sym (ap (list_any (λ n. n == code_number text)) own) ∙ f.1 in
    plain_good row text (plain_if flat row text least span order e.0
    (ap (λ o. has_used_code o text) are ∙ code_there listed.used text (some_number (code_number text) f.0) there)
    (any_form row.data_type text any)) narrow
  where
    any_form : (t : ElementType) (text : List ℕ) → kind_of t ≡ kind.Any → has_plain_form t text ≡ true
    any_form Text text e = refl
    any_form Identifier text e = refl
    any_form (Number places) text e = cc
    any_form Decimal text e = cc
    any_form Date text e = cc
    any_form Time text e = cc

pub length_numbers : (codes : List (List ℕ)) → length codes ≡ length (map code_number codes)
length_numbers [] = refl
length_numbers (code ∷ codes) = ap suc (length_numbers codes)

-- a table to which nothing was added
pub grown_none : (numbers : List ℕ) → IsGrown numbers numbers
grown_none numbers = ([], sym (append-nil numbers))
