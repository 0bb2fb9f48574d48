-- Words of a text: parts between separators, numbers, references, uses, types, how often, and codes.
use Rattle.std.proofs.Common.{◌≡◌, ℕ, ◌+◌, ◌-◌, ◌*◌, ◌≤◌, ◌<◌, List, [], ◌∷◌, Option, Some, None, Bool, true, false, cond, not, ◌&&◌, ◌==◌}
use Rattle.std.proofs.Common.{nat_le, option_map, option_and_then, length, take, drop, fold, codes, bytes_eq, refl, sym, ap, ◌∙◌, arith}
use Rattle.std.proofs.Common.{one-add, subst, leb-true, leb-false, le-leb}
use Rattle.std.proofs.Math.Bool.{and-true}
use Rattle.std.proofs.lemmas.Slice.Eq.{bytes_eq-Decides}
use Rattle.std.proofs.lemmas.Bool.{eqb-true, cond-false, ne_eqb}
use Rattle.std.specs.List.{list_all, prefix_len, position_or_len, slice_split, onto_first}
use Rattle.std.specs.Char.{is_ascii_digit}
use Rattle.std.specs.Option.{option_map_or}
use Rattle.hub_kinds.specs.Words.{is_number}
use Rattle.guide_tree.specs.declared.element.ElementType.{ElementType}
use Rattle.guide_tree.specs.declared.element.ElementType.TheVariants as types
use Rattle.guide_tree.specs.declared.element.Requirement.TheVariants as requirement
use Rattle.guide_tree.specs.declared.element.CodeList.{CodeList}
use Rattle.toml_keys.specs.declared.values.TheConstants.{GREATEST_NUMBER}
use Rattle.guide_toml.specs.Tokens.{is_code}
use Rattle.guide_toml.specs.Counts.{count_from, count_of}
use Rattle.guide_toml.specs.ElementTexts.{Tokens, behind_first, repeat_of, repeat_or_once}
use Rattle.guide_toml.specs.ElementTexts as then
use Rattle.night_definition.specs.GuideFile.{count, reference_of, requirement_of, type_of, take_repeat, take_wide, codes_unused, code_list}
use Rattle.night_equal_guides.proofs.Steps.{turned, first_if}

-- the parts behind the first one
abbrev pub parts_behind : {A : Type 0} → (A → Bool) → List A → List (List A)
parts_behind p [] = []
parts_behind p (x ∷ xs) = slice_split p xs

parts_from : {A : Type 0} (p : A → Bool) (x : A) (xs : List A) (b : Bool)
    → slice_split p xs ≡ take (position_or_len p xs) xs ∷ parts_behind p (drop (position_or_len p xs) xs)
    → cond b ([] ∷ slice_split p xs) (onto_first x (slice_split p xs))
    ≡ take (cond (not b) (1 + position_or_len p xs) 0) (x ∷ xs)
    ∷ parts_behind p (drop (cond (not b) (1 + position_or_len p xs) 0) (x ∷ xs))
parts_from p x xs true e = refl
parts_from p x xs false e =
    ap (onto_first x) e
    ∙ ap (λ n. take n (x ∷ xs) ∷ parts_behind p (drop n (x ∷ xs))) (sym (one-add (position_or_len p xs)))

-- a list is its first part and the parts behind
pub parts_are : {A : Type 0} (p : A → Bool) (xs : List A)
    → slice_split p xs ≡ take (position_or_len p xs) xs ∷ parts_behind p (drop (position_or_len p xs) xs)
parts_are p [] = refl
parts_are p (x ∷ xs) = parts_from p x xs (p x) (parts_are p xs)

-- numbers
abbrev digits_on : ℕ → List ℕ → ℕ
digits_on n ds = fold (λ m digit. 10 * m + (digit - 48)) n ds

digits_rise : (ds : List ℕ) (n : ℕ) → n ≤ digits_on n ds
digits_rise [] n = omega arith
digits_rise (d ∷ ds) n = let more : 10 * n + (d - 48) ≤ digits_on (10 * n + (d - 48)) ds = digits_rise ds (10 * n + (d - 48)) in omega arith

abbrev counted : ℕ → List ℕ → Option ℕ
counted n ds = cond (list_all is_ascii_digit ds && nat_le (digits_on n ds) GREATEST_NUMBER) (Some (digits_on n ds)) None

too_great : (n m : ℕ) (b : Bool) → n ≤ m → nat_le n GREATEST_NUMBER ≡ false
    → cond (b && nat_le m GREATEST_NUMBER) (Some m) None ≡ None
too_great n m false l e = refl
too_great n m true l e = by (nat_le m GREATEST_NUMBER) refl
  where
    by : (low : Bool) → nat_le m GREATEST_NUMBER ≡ low → cond low (Some m) None ≡ None
    by false f = refl
    by true f =
        let past : GREATEST_NUMBER < n = leb-false n GREATEST_NUMBER e in
        let near : m ≤ GREATEST_NUMBER = leb-true m GREATEST_NUMBER f in absurd (omega arith)

abbrev next_number : (n d : ℕ) → ℕ
next_number n d = 10 * n + (d - 48)

counts_by : (d : ℕ) (ds : List ℕ) (n : ℕ) (digit low : Bool) → nat_le (next_number n d) GREATEST_NUMBER ≡ low
    → (low ≡ true → count_from (next_number n d) ds ≡ counted (next_number n d) ds)
    → cond (digit && low) (count_from (next_number n d) ds) None
    ≡ cond ((digit && list_all is_ascii_digit ds) && nat_le (digits_on (next_number n d) ds) GREATEST_NUMBER)
    (Some (digits_on (next_number n d) ds)) None
counts_by d ds n false low f more = refl
counts_by d ds n true true f more = more refl
counts_by d ds n true false f more =
    sym (too_great (next_number n d) (digits_on (next_number n d) ds) (list_all is_ascii_digit ds) (digits_rise ds (next_number n d)) f)

pub counts_on : (ds : List ℕ) (n : ℕ) → nat_le n GREATEST_NUMBER ≡ true → count_from n ds ≡ counted n ds
counts_on [] n e = sym (ap (λ b. cond b (Some n) None) e)
counts_on (d ∷ ds) n e =
    counts_by d ds n (is_ascii_digit d) (nat_le (next_number n d) GREATEST_NUMBER) refl (λ f. counts_on ds (next_number n d) f)

sized : (v : ℕ) (s t all : Bool) → s ≡ true → t ≡ true
    → option_and_then (λ (n : ℕ). cond (nat_le n GREATEST_NUMBER) (Some n) None) (cond (s && t && all) (Some v) None)
    ≡ cond (all && nat_le v GREATEST_NUMBER) (Some v) None
sized v true true true e f = refl
sized v true true false e f = refl
sized v false t all e f = let no : false ≡ true = e in cc
sized v true false all e f = let no : false ≡ true = f in cc

pub count_is : (text : List ℕ) → count text ≡ count_of text
count_is [] = refl
count_is (d ∷ ds) =
    sized (digits_on 0 (d ∷ ds)) (nat_le 1 (length (d ∷ ds))) (nat_le (length (d ∷ ds)) (length (d ∷ ds)))
    (list_all is_ascii_digit (d ∷ ds)) (le-leb 1 (length (d ∷ ds)) (omega arith))
    (le-leb (length (d ∷ ds)) (length (d ∷ ds)) (omega arith))
    ∙ sym (counts_on (d ∷ ds) 0 refl)

pub reference_is : (t : List ℕ) → reference_of t ≡ then.reference_of t
reference_is t = ap (cond (bytes_eq t (codes "-")) (Some [])) (by (is_number 4 t))
  where
    by : (b : Bool) → option_and_then (λ (n : ℕ). Some t) (cond b (Some (digits_on 0 t)) None) ≡ cond b (Some t) None
    by true = refl
    by false = refl

pub requirement_is : (t : List ℕ) → requirement_of t ≡ then.requirement_of t
requirement_is t =
    first_if requirement.Mandatory _ _ _ _ (turned (codes "M") t) (first_if requirement.Optional _ _ _ _ (turned (codes "O") t) refl)

-- N, for a row that isn't used, is no use
pub unused_is_no_use : (t : List ℕ) → bytes_eq t (codes "N") ≡ true → requirement_of t ≡ None
unused_is_no_use t e = subst (λ (u : List ℕ). requirement_of u ≡ None) (sym ((bytes_eq-Decides t (codes "N")).0 e)) refl

abbrev named_types : Option ElementType → List ℕ → Option ElementType
named_types other t =
    cond (bytes_eq t (codes "AN")) (Some types.Text)
    (cond (bytes_eq t (codes "ID")) (Some types.Identifier)
    (cond (bytes_eq t (codes "R")) (Some types.Decimal)
    (cond (bytes_eq t (codes "DT")) (Some types.Date)
    (cond (bytes_eq t (codes "TM")) (Some types.Time) other))))

abbrev room_types : List ℕ → Option ElementType
room_types t =
    cond (bytes_eq (codes "AN") t) (Some types.Text)
    (cond (bytes_eq (codes "ID") t) (Some types.Identifier)
    (cond (bytes_eq (codes "R") t) (Some types.Decimal)
    (cond (bytes_eq (codes "DT") t) (Some types.Date)
    (cond (bytes_eq (codes "TM") t) (Some types.Time) None))))

named_are : (t : List ℕ) → room_types t ≡ named_types None t
named_are t =
    first_if types.Text _ _ _ _ (turned (codes "AN") t)
    (first_if types.Identifier _ _ _ _ (turned (codes "ID") t)
    (first_if types.Decimal _ _ _ _ (turned (codes "R") t)
    (first_if types.Date _ _ _ _ (turned (codes "DT") t)
    (first_if types.Time _ _ _ _ (turned (codes "TM") t) refl))))

two_by : (n d : ℕ) (b : Bool) → (n == 78) ≡ b → type_of (n ∷ d ∷ []) ≡ then.type_of (n ∷ d ∷ [])
two_by n d true e =
    subst (λ (m : ℕ). type_of (m ∷ d ∷ []) ≡ then.type_of (m ∷ d ∷ [])) (sym (eqb-true n 78 e)) (by (is_ascii_digit d))
  where
    by : (digit : Bool)
        → option_and_then (λ m. Some (types.Number m)) (cond (digit && true) (Some (10 * 0 + (d - 48))) None)
        ≡ cond digit (Some (types.Number (d - 48))) None
    by true = ap (λ m. Some (types.Number m)) (omega arith)
    by false = refl
two_by n d false e =
    cond-false ((n == 78) && true) _ _ (ap (λ b. b && true) e) ∙ named_are (n ∷ d ∷ [])
    ∙ ap (λ (o : Option ElementType). named_types o (n ∷ d ∷ []))
    (sym (cond-false ((n == 78) && is_ascii_digit d) _ _ (ap (λ b. b && is_ascii_digit d) e)))

pub type_is : (t : List ℕ) → type_of t ≡ then.type_of t
type_is [] = refl
type_is (a ∷ []) = named_are (a ∷ [])
type_is (n ∷ d ∷ []) = two_by n d (n == 78) refl
type_is (a ∷ b ∷ c ∷ ds) =
    cond-false ((length (a ∷ b ∷ c ∷ ds) == 2) && ((a == 78) && true)) _ _
    (ap (λ t. t && ((a == 78) && true)) (ne_eqb (length (a ∷ b ∷ c ∷ ds)) 2 (λ e. omega arith)))
    ∙ named_are (a ∷ b ∷ c ∷ ds)

-- how often
repeats : (o : Option ℕ) (t : List ℕ) (ts : Tokens) → option_map_or (λ (n : ℕ). (n, ts)) o (1, t ∷ ts) ≡ repeat_or_once o t ts
repeats None t ts = refl
repeats (Some n) t ts = refl

repeat_is : (t : List ℕ) → cond (bytes_eq (take 1 t) (codes "x")) (count (drop 1 t)) None ≡ repeat_of t
repeat_is [] = refl
repeat_is (x ∷ digits) = ap (λ b. cond b (count digits) None) (and-true (x == 120)) ∙ ap (λ o. cond (x == 120) o None) (count_is digits)

pub take_repeat_is : (ts : Tokens) → take_repeat ts ≡ then.take_repeat ts
take_repeat_is [] = refl
take_repeat_is (t ∷ ts) = ap (λ (o : Option ℕ). option_map_or (λ (n : ℕ). (n, ts)) o (1, t ∷ ts)) (repeat_is t) ∙ repeats (repeat_of t) t ts

pub take_wide_is : (ts : Tokens) → take_wide ts ≡ then.take_wide ts
take_wide_is [] = refl
take_wide_is (t ∷ ts) = refl

unused_are : (used ts : Tokens) → codes_unused used ts ≡ then.unused_codes used ts
unused_are used [] = refl
unused_are used (t ∷ ts) = refl

pub code_list_is : (ts : Tokens) → code_list ts ≡ then.codes_of ts
code_list_is [] = refl
code_list_is (t ∷ ts) =
    ap (λ (o : Option CodeList). cond (bytes_eq t (codes "=")) (option_map Some o) None)
    (unused_are (take (prefix_len is_code ts) ts) (drop (prefix_len is_code ts) ts))
