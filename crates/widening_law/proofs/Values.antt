-- A value that an old row takes is taken by a wider one.
use Rattle.std.proofs.Common.{◌≡◌, ◌≢◌, ℕ, ◌≤◌, ◌<◌, List, [], ◌∷◌, Bool, true, false, ◌&&◌, ◌||◌, not, Option, Some, None, refl}
use Rattle.std.proofs.Common.{ap, sym, ◌∙◌, arith, length}
use Rattle.std.specs.Prelude.{nat_le, nat_lt, if◌then◌else◌}
use Rattle.std.specs.List.{list_all}
use Rattle.std.specs.Option.{option_map_or, option_or}
use Rattle.std.proofs.lemmas.Bool.{and_parts, and_from, or_right, leb-true, ltb-false, cases_Bool}
use Rattle.std.proofs.lemmas.Bool.Decides.{nat_tests}
use Rattle.guide_tree.specs.declared.element.ElementType.{ElementType}
use Rattle.guide_tree.specs.declared.element.ElementType.TheVariants.{Text, Identifier, Number, Decimal, Date, Time}
use Rattle.guide_tree.specs.declared.element.CodeList.{CodeList}
use Rattle.guide_tree.specs.declared.element.SimpleRow.{SimpleRow}
use Rattle.guide_tree.specs.Words.{is_within}
use Rattle.hub_kinds.specs.declared.codes.ElementCode.{ElementCode}
use Rattle.hub_kinds.specs.Words.{contains_text}
use Rattle.elem_rules.specs.Values.{is_character, is_form, value_length, code_fault, calendar_fault, value_fault}
use Rattle.guide_widening.specs.Rows.{is_text_type, is_wider_type, is_wider_alphabet, is_wider_codes, is_wider_range}
use Rattle.guide_widening.specs.Rows.{is_wider_row, is_wider_requirement}
use Rattle.widening_law.proofs.Listed.{among}

-- what two types have in common of which one is wider
pub record IsLike (t u : ElementType) (wide : Bool) (text : List ℕ) : Type 0 where
  pub form : is_form t wide text ≡ true → is_form u wide text ≡ true
  pub length : value_length t text ≡ value_length u text
  pub calendar : calendar_fault t text ≡ calendar_fault u text

like_itself : (t u : ElementType) (wide : Bool) (text : List ℕ) → is_form t wide text ≡ is_form u wide text
    → value_length t text ≡ value_length u text → calendar_fault t text ≡ calendar_fault u text → IsLike t u wide text
like_itself t u wide text f l c = record { form = λ h. sym f ∙ h; length = l; calendar = c }

pub like : (t u : ElementType) (wide : Bool) (text : List ℕ) → is_wider_type t u ≡ true → IsLike t u wide text
like Text Text wide text h = like_itself Text Text wide text refl refl refl
like Text Identifier wide text h = like_itself Text Identifier wide text refl refl refl
like Identifier Text wide text h = like_itself Identifier Text wide text refl refl refl
like Identifier Identifier wide text h = like_itself Identifier Identifier wide text refl refl refl
like (Number n) (Number m) wide text h = like_itself (Number n) (Number m) wide text refl refl refl
like Decimal Decimal wide text h = like_itself Decimal Decimal wide text refl refl refl
like Date Date wide text h = like_itself Date Date wide text refl refl refl
like Time Time wide text h = like_itself Time Time wide text refl refl refl
like t u wide text h = cc

more : (x y : Bool) → (x || false) ≡ true → (x || y) ≡ true
more true y h = refl
more false y h = cc

character : (old new : Bool) (byte : ℕ) → is_wider_alphabet old new ≡ true → is_character old byte ≡ true → is_character new byte ≡ true
character false false byte h c = c
character true true byte h c = c
character false true byte h c = more (is_within 32 126 byte) (nat_le 128 byte) c
character true false byte h c = cc

characters : (old new : Bool) (text : List ℕ) → is_wider_alphabet old new ≡ true → list_all (is_character old) text ≡ true
    → list_all (is_character new) text ≡ true
characters old new [] h c = refl
characters old new (byte ∷ text) h c =
    let p = and_parts (is_character old byte) (list_all (is_character old) text) c in
    and_from (is_character new byte) (list_all (is_character new) text) (character old new byte h p.0) (characters old new text h p.1)

form_alphabet : (t : ElementType) (old new : Bool) (text : List ℕ) → is_wider_alphabet old new ≡ true → is_form t old text ≡ true
    → is_form t new text ≡ true
form_alphabet Text old new text h f = characters old new text h f
form_alphabet Identifier old new text h f = characters old new text h f
form_alphabet (Number n) old new text h f = f
form_alphabet Decimal old new text h f = f
form_alphabet Date old new text h f = f
form_alphabet Time old new text h f = f

-- what no fault says
pub record IsFree (row : SimpleRow) (text : List ℕ) : Type 0 where
  pub form : is_form row.data_type row.wide text ≡ true
  pub least : row.min ≤ value_length row.data_type text
  pub most : value_length row.data_type text ≤ row.max
  pub listed : code_fault row.codes text ≡ None
  pub calendar : calendar_fault row.data_type text ≡ None

none_if : (b : Bool) (code : ElementCode) (x : Option ElementCode) → (if b then Some code else x) ≡ None → (b ≡ false) × (x ≡ None)
none_if true code x h = cc
none_if false code x h = (refl, h)

if_none : (b : Bool) (code : ElementCode) (x : Option ElementCode) → b ≡ false → x ≡ None → (if b then Some code else x) ≡ None
if_none true code x h e = cc
if_none false code x h e = e

neither : (x y : Option ElementCode) → option_or x y ≡ None → (x ≡ None) × (y ≡ None)
neither None y h = (refl, h)
neither (Some c) y h = cc

or_neither : (x y : Option ElementCode) → x ≡ None → y ≡ None → option_or x y ≡ None
or_neither None y h e = e
or_neither (Some c) y h e = cc

pub not_false : (b : Bool) → not b ≡ false → b ≡ true
not_false true h = refl
not_false false h = cc

pub true_not : (b : Bool) → b ≡ true → not b ≡ false
true_not true h = refl
true_not false h = cc

pub free : (row : SimpleRow) (text : List ℕ) → value_fault row text ≡ None → IsFree row text
free row text h =
    let a = none_if _ _ _ h in
    let b = none_if _ _ _ a.1 in
    let c = none_if _ _ _ b.1 in
    let d = neither (code_fault row.codes text) (calendar_fault row.data_type text) c.1 in
    record {
      form = not_false _ a.0;
      least = ltb-false _ _ b.0;
      most = ltb-false _ _ c.0;
      listed = d.0;
      calendar = d.1;
    }

pub not_faulty : (row : SimpleRow) (text : List ℕ) → IsFree row text → value_fault row text ≡ None
not_faulty row text f =
    if_none _ _ _ (true_not _ f.form) (if_none _ _ _ (not_less _ _ f.least) (if_none _ _ _ (not_less _ _ f.most)
    (or_neither (code_fault row.codes text) (calendar_fault row.data_type text) f.listed f.calendar)))
  where
    not_less : (a b : ℕ) → b ≤ a → nat_lt a b ≡ false
    not_less a b l = grind (arith, nat_tests)

listed_none : (other : Bool) (b : Bool) (c : ElementCode) (x : Option ElementCode)
    → (if b then None else (if other then Some c else x)) ≡ None → x ≢ None → b ≡ true
listed_none other true c x h n = refl
listed_none true false c x h n = cc
listed_none false false c x h n = absurd (n h)

none_listed : (b : Bool) (x : Option ElementCode) → b ≡ true → (if b then None else x) ≡ None
none_listed true x h = refl
none_listed false x h = cc

some_none : (c : ElementCode) → Some c ≢ None
some_none c h = cc

pub codes_free : (old new : Option CodeList) (text : List ℕ) → is_wider_codes old new ≡ true → code_fault old text ≡ None
    → code_fault new text ≡ None
codes_free old None text h f = refl
codes_free None (Some new) text h f = cc
codes_free (Some old) (Some new) text h f =
    none_listed (contains_text new.used text) _ (among new.used old.used text h
    (listed_none _ (contains_text old.used text) _ _ f (some_none _)))

record IsWiderRow (old new : SimpleRow) : Type 0 where
  needed : is_wider_requirement old.requirement new.requirement ≡ true
  typed : is_wider_type old.data_type new.data_type ≡ true
  ranged : is_wider_range old.min old.max new.min new.max ≡ true
  spelled : is_wider_alphabet old.wide new.wide ≡ true
  coded : is_wider_codes old.codes new.codes ≡ true

row_parts : (old new : SimpleRow) → is_wider_row old new ≡ true → IsWiderRow old new
row_parts old new h =
    let a = and_parts _ _ h in
    let b = and_parts _ _ a.0 in
    let c = and_parts _ _ b.0 in
    let d = and_parts _ _ c.0 in
    record { needed = d.0; typed = d.1; ranged = c.1; spelled = b.1; coded = a.1 }

-- what an old row takes is taken by the new one
pub value_free : (old new : SimpleRow) (text : List ℕ) → is_wider_row old new ≡ true → value_fault old text ≡ None
    → value_fault new text ≡ None
value_free old new text h f = not_faulty new text (by (row_parts old new h) (free old text f))
  where
    by : IsWiderRow old new → IsFree old text → IsFree new text
    by w o =
        let l = like old.data_type new.data_type old.wide text w.typed in
        let r = and_parts (nat_le new.min old.min) (nat_le old.max new.max) w.ranged in
        let low : new.min ≤ old.min = leb-true new.min old.min r.0 in
        let high : old.max ≤ new.max = leb-true old.max new.max r.1 in
        record {
          form = form_alphabet new.data_type old.wide new.wide text w.spelled (l.form o.form);
          least = omega (arith, l.length, o.least);
          most = omega (arith, l.length, o.most);
          listed = codes_free old.codes new.codes text w.coded o.listed;
          calendar = sym l.calendar ∙ o.calendar;
        }
