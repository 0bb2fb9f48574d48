-- A value of the plain form of its type that is one of its codes, and is neither too short nor too long, has no fault.
use Rattle.std.proofs.Common.{◌≡◌, ℕ, List, Bool, true, false, length, refl, ap, ◌∙◌}
use Rattle.std.specs.Prelude.{Option, Some, None, ◌&&◌, ◌||◌, ◌==◌, nat_le, nat_lt, if◌then◌else◌}
use Rattle.std.specs.List.{list_any, list_all}
use Rattle.std.specs.Option.{option_map_or, option_or}
use Rattle.std.proofs.lemmas.Bool.{le-ltb, leb-true}
use Rattle.guide_tree.specs.declared.element.CodeList.{CodeList}
use Rattle.guide_tree.specs.declared.element.ElementType.{ElementType}
use Rattle.guide_tree.specs.declared.element.ElementType.TheVariants.{Text, Identifier, Number, Decimal, Date, Time}
use Rattle.guide_tree.specs.declared.element.SimpleRow.{SimpleRow}
use Rattle.hub_kinds.specs.Words.{contains_text}
use Rattle.hub_kinds.specs.declared.codes.ElementCode.TheVariants as ik403
use Rattle.elem_rules.specs.Clean.{has_plain_form, has_used_code, is_plain_value, is_strange}
use Rattle.elem_rules.specs.Values.{calendar_fault, code_fault, is_character, is_form, value_fault, value_length}
use Rattle.moment.specs.Moment.{pair_at}
use Rattle.moment.specs.Calendar.{is_digits, is_date, is_time, is_long_date, is_short_date}
use Rattle.moment.proofs.ForAbove.{both}
use Rattle.elem_rules.proofs.Measures.{decimal_unsigned, whole_length, whole_unsigned}
use Rattle.elem_rules.proofs.Plain.{narrow_characters}

date_digits : (text : List ℕ) → is_date text ≡ true → is_digits text ≡ true
date_digits text h = (both (is_digits text) (is_long_date text || is_short_date text) h).0

time_digits : (text : List ℕ) → is_time text ≡ true → is_digits text ≡ true
time_digits text h =
    let size = (length text == 4) || ((nat_le 6 (length text) && nat_le (length text) 8) && nat_le (pair_at text 4) 59) in
    let minutes = both ((is_digits text && size) && nat_le (pair_at text 0) 23) (nat_le (pair_at text 2) 59) h in
    let hours = both (is_digits text && size) (nat_le (pair_at text 0) 23) minutes.0 in
    (both (is_digits text) size hours.0).0

plain_form : (t : ElementType) (wide : Bool) (text : List ℕ) → has_plain_form t text ≡ true → list_all (is_character wide) text ≡ true
    → is_form t wide text ≡ true
plain_form Text wide text f h = h
plain_form Identifier wide text f h = h
plain_form (Number places) wide text f h = whole_unsigned text f
plain_form Decimal wide text f h = decimal_unsigned text f
plain_form Date wide text f h = date_digits text f
plain_form Time wide text f h = time_digits text f

plain_length : (t : ElementType) (text : List ℕ) → has_plain_form t text ≡ true → value_length t text ≡ length text
plain_length Text text f = refl
plain_length Identifier text f = refl
plain_length (Number places) text f = whole_length text f
plain_length Decimal text f = whole_length text f
plain_length Date text f = refl
plain_length Time text f = refl

plain_day : (t : ElementType) (text : List ℕ) → has_plain_form t text ≡ true → calendar_fault t text ≡ None
plain_day Text text f = refl
plain_day Identifier text f = refl
plain_day (Number places) text f = refl
plain_day Decimal text f = refl
plain_day Date text f = ap (λ b. if b then None else Some ik403.InvalidDate) f
plain_day Time text f = ap (λ b. if b then None else Some ik403.InvalidTime) f

used_code : (codes : Option CodeList) (text : List ℕ) → has_used_code codes text ≡ true → code_fault codes text ≡ None
used_code None text h = refl
used_code (Some listed) text h =
    ap (λ b. if b then None else (if option_map_or (λ unused. contains_text unused text) listed.unused false then Some ik403.CodeNotUsed
    else Some ik403.InvalidCode)) h

pub plain_good : (row : SimpleRow) (text : List ℕ) → is_plain_value row text ≡ true → list_any is_strange text ≡ false
    → value_fault row text ≡ None
plain_good row text plain narrow =
    let form = both ((nat_le row.min (length text) && nat_le (length text) row.max) && has_used_code row.codes text)
    (has_plain_form row.data_type text) plain in
    let code = both (nat_le row.min (length text) && nat_le (length text) row.max) (has_used_code row.codes text) form.0 in
    let within = both (nat_le row.min (length text)) (nat_le (length text) row.max) code.0 in
    let size : value_length row.data_type text ≡ length text = plain_length row.data_type text form.1 in
    let low : nat_lt (value_length row.data_type text) row.min ≡ false =
    ap (λ (n : ℕ). nat_lt n row.min) size ∙ le-ltb (length text) row.min (leb-true row.min (length text) within.0) in
    let high : nat_lt row.max (value_length row.data_type text) ≡ false =
    ap (nat_lt row.max) size ∙ le-ltb row.max (length text) (leb-true (length text) row.max within.1) in
    rw (plain_form row.data_type row.wide text form.1 (narrow_characters row.wide text narrow), low, high)
    (ap (λ fault. option_or fault (calendar_fault row.data_type text)) (used_code row.codes text code.1)
    ∙ plain_day row.data_type text form.1)
