-- A text without component and repetition separators is its one part, and so are the parts of it.
use Rattle.std.proofs.Common.{◌≡◌, ℕ, zero, suc, ◌<◌, ◌∙◌, List, [], ◌∷◌, Bool, true, false, cond, length, get_or, refl, ap, sym, arith}
use Rattle.std.specs.Prelude.{Option, Some, None, ◌==◌, ◌||◌, ◌&&◌, not, nat_le}
use Rattle.std.specs.Bool.{OnTrue}
use Rattle.std.specs.List.{list_any, list_all, slice_split, onto_first}
use Rattle.std.specs.Option.{option_map_or}
use Rattle.std.proofs.lemmas.Bool.{false_from_ne_true}
use Rattle.memchr.specs.Find.{IsFirstByte, is_byte, is_byte2}
use Rattle.x12_bytes.specs.declared.delims.Delims.{Delims}
use Rattle.x12_segs.specs.Words.{parts, parts_by, occurrences, components}
use Rattle.guide_tree.specs.Words.{is_within}
use Rattle.elem_rules.specs.Clean.{is_odd, is_odd_by, is_strange}
use Rattle.elem_rules.specs.Divided.{is_inner_separator, is_empty}
use Rattle.elem_rules.specs.Values.{is_character}

neither : (a b : Bool) → (a || b) ≡ false → (a ≡ false) × (b ≡ false)
neither true b h = cc
neither false b h = (refl, h)

nor : (a b : Bool) → a ≡ false → b ≡ false → (a || b) ≡ false
nor true b g h = cc
nor false b g h = h

-- no byte is an inner separator
abbrev pub IsPlain : Delims → List ℕ → Type 0
IsPlain delims text = list_any (is_inner_separator delims) text ≡ false

one_part : (p : ℕ → Bool) (xs : List ℕ) → list_any p xs ≡ false → slice_split p xs ≡ xs ∷ []
one_part p [] h = refl
one_part p (x ∷ xs) h =
    let e = neither (p x) (list_any p xs) h in
    ap (λ b. cond b ([] ∷ slice_split p xs) (onto_first x (slice_split p xs))) e.0 ∙ ap (onto_first x) (one_part p xs e.1)

any_either : (p q : ℕ → Bool) (xs : List ℕ) → list_any (λ x. p x || q x) xs ≡ false → (list_any p xs ≡ false) × (list_any q xs ≡ false)
any_either p q [] h = (refl, refl)
any_either p q (x ∷ xs) h =
    let e = neither (p x || q x) (list_any (λ x. p x || q x) xs) h in
    let f = neither (p x) (q x) e.0 in
    let r = any_either p q xs e.1 in
    (nor (p x) (list_any p xs) f.0 r.0, nor (q x) (list_any q xs) f.1 r.1)

pub one_component : (delims : Delims) (text : List ℕ) → IsPlain delims text → components delims text ≡ text ∷ []
one_component delims text h =
    one_part (λ b. b == delims.component) text
    (any_either (λ b. b == delims.component) (λ b. option_map_or (λ separator. b == separator) delims.repetition false) text h).0

one_by : (separator : Option ℕ) (text : List ℕ) → list_any (λ b. option_map_or (λ separator. b == separator) separator false) text ≡ false
    → parts_by separator text ≡ text ∷ []
one_by None text h = refl
one_by (Some s) text h = one_part (λ b. b == s) text h

pub one_occurrence : (delims : Delims) (text : List ℕ) → IsPlain delims text → occurrences delims text ≡ text ∷ []
one_occurrence delims text h =
    one_by delims.repetition text
    (any_either (λ b. b == delims.component) (λ b. option_map_or (λ separator. b == separator) delims.repetition false) text h).1

pub filled_plain : (delims : Delims) (byte : ℕ) (bytes : List ℕ) → IsPlain delims (byte ∷ bytes) → is_empty delims (byte ∷ bytes) ≡ false
filled_plain delims byte bytes h =
    let e = neither (is_inner_separator delims byte) (list_any (is_inner_separator delims) bytes) h in
    rw e.0 refl

-- parts of a text without such bytes have none
part_none-cons : (p : ℕ → Bool) (x : ℕ) (list : List (List ℕ)) → p x ≡ false → ((n : ℕ) → list_any p (get_or list n []) ≡ false) → (n : ℕ)
    → list_any p (get_or (onto_first x list) n []) ≡ false
part_none-cons p x [] e h zero = nor (p x) false e refl
part_none-cons p x [] e h (suc n) = refl
part_none-cons p x (part ∷ list) e h zero = nor (p x) (list_any p part) e (h 0)
part_none-cons p x (part ∷ list) e h (suc n) = h (suc n)

part_none-first : (p : ℕ → Bool) (list : List (List ℕ)) → ((n : ℕ) → list_any p (get_or list n []) ≡ false) → (n : ℕ)
    → list_any p (get_or ([] ∷ list) n []) ≡ false
part_none-first p list h zero = refl
part_none-first p list h (suc n) = h n

part_none : (p q : ℕ → Bool) (xs : List ℕ) → list_any p xs ≡ false → (n : ℕ) → list_any p (get_or (slice_split q xs) n []) ≡ false
part_none p q [] h zero = refl
part_none p q [] h (suc n) = refl
part_none p q (x ∷ xs) h n =
    let e = neither (p x) (list_any p xs) h in
    elim (q x) as (λ b. list_any p (get_or (cond b ([] ∷ slice_split q xs) (onto_first x (slice_split q xs))) n []) ≡ false) [
      | true ↦ part_none-first p (slice_split q xs) (part_none p q xs e.1) n
      | false ↦ part_none-cons p x (slice_split q xs) e.0 (part_none p q xs e.1) n
    ]

pub plain_part : (delims : Delims) (separator : ℕ) (text : List ℕ) (n : ℕ) → IsPlain delims text
    → IsPlain delims (get_or (parts separator text) n [])
plain_part delims separator text n h = part_none (is_inner_separator delims) (λ b. b == separator) text h n

-- what a search finds
none_passes : (p : ℕ → Bool) (xs : List ℕ) → ((j : ℕ) → j < length xs → p (get_or xs j 0) ≡ true → ⊥) → list_any p xs ≡ false
none_passes p [] h = refl
none_passes p (x ∷ xs) h =
    nor (p x) (list_any p xs) (false_from_ne_true (p x) (h 0 (omega arith)))
    (none_passes p xs (λ j lt. h (suc j) (omega arith)))

same_tests : (p q : ℕ → Bool) (xs : List ℕ) → ((x : ℕ) → p x ≡ q x) → list_any p xs ≡ list_any q xs
same_tests p q [] e = refl
same_tests p q (x ∷ xs) e = ap (λ b. b || list_any p xs) (e x) ∙ ap (λ b. q x || b) (same_tests p q xs e)

or_false : (b : Bool) → b ≡ (b || false)
or_false true = refl
or_false false = refl

inner_one : (delims : Delims) (r : Option ℕ) → r ≡ None → delims.repetition ≡ r → (x : ℕ)
    → is_inner_separator delims x ≡ is_byte delims.component x
inner_one delims r is none x = ap (λ o. (x == delims.component) || option_map_or (λ separator. x == separator) o false) (none ∙ is)
    ∙ sym (or_false (x == delims.component))

pub plain_one : (delims : Delims) (text : List ℕ) → delims.repetition ≡ None → IsFirstByte (is_byte delims.component) text None
    → IsPlain delims text
plain_one delims text none h =
    same_tests (is_inner_separator delims) (is_byte delims.component) text (inner_one delims None refl none)
    ∙ none_passes (is_byte delims.component) text (λ j lt. h j (omega arith) lt)

pub plain_two : (delims : Delims) (text : List ℕ) (separator : ℕ) → delims.repetition ≡ Some separator
    → IsFirstByte (is_byte2 delims.component separator) text None → IsPlain delims text
plain_two delims text separator is h =
    same_tests (is_inner_separator delims) (is_byte2 delims.component separator) text
    (λ x. ap (λ o. (x == delims.component) || option_map_or (λ separator. x == separator) o false) is)
    ∙ none_passes (is_byte2 delims.component separator) text (λ j lt. h j (omega arith) lt)

-- what a look at all bytes finds
or_same : (b : Bool) → (b || b) ≡ b
or_same true = refl
or_same false = refl

inner_byte : (delims : Delims) → delims.repetition ≡ None → (x : ℕ) → is_inner_separator delims x ≡ (x == delims.component)
inner_byte delims none x =
    ap (λ o. (x == delims.component) || option_map_or (λ separator. x == separator) o false) none ∙ sym (or_false (x == delims.component))

odd_one : (delims : Delims) → delims.repetition ≡ None → (x : ℕ) → is_odd_by delims.component delims.component x ≡ is_odd delims x
odd_one delims none x =
    ap (λ b. b || is_strange x) (or_same (x == delims.component) ∙ sym (inner_byte delims none x))

odd_two : (delims : Delims) (separator : ℕ) → delims.repetition ≡ Some separator → (x : ℕ)
    → is_odd_by delims.component separator x ≡ is_odd delims x
odd_two delims separator is x =
    sym (ap (λ o. ((x == delims.component) || option_map_or (λ separator. x == separator) o false) || is_strange x) is)

pub odd_by_one : (delims : Delims) (text : List ℕ) → delims.repetition ≡ None
    → list_any (is_odd_by delims.component delims.component) text ≡ list_any (is_odd delims) text
odd_by_one delims text none = same_tests (is_odd_by delims.component delims.component) (is_odd delims) text (odd_one delims none)

pub odd_by_two : (delims : Delims) (text : List ℕ) (separator : ℕ) → delims.repetition ≡ Some separator
    → list_any (is_odd_by delims.component separator) text ≡ list_any (is_odd delims) text
odd_by_two delims text separator is = same_tests (is_odd_by delims.component separator) (is_odd delims) text (odd_two delims separator is)

pub neither_found : (delims : Delims) (text : List ℕ) → list_any (is_odd delims) text ≡ false
    → IsPlain delims text × (list_any is_strange text ≡ false)
neither_found delims text h = any_either (is_inner_separator delims) is_strange text h

-- a part of a text is as narrow as the text
pub narrow_part : (narrow : Bool) (separator : ℕ) (text : List ℕ) (n : ℕ) → OnTrue narrow (list_any is_strange text ≡ false)
    → OnTrue narrow (list_any is_strange (get_or (parts separator text) n []) ≡ false)
narrow_part true separator text n h = part_none is_strange (λ b. b == separator) text h n
narrow_part false separator text n h = tt

-- characters from space to tilde are characters of any row
both_true : (a b : Bool) → a ≡ true → b ≡ true → (a && b) ≡ true
both_true true b g h = h
both_true false b g h = cc

within_wide : (a b : Bool) → not (a || false) ≡ false → (a || b) ≡ true
within_wide true b h = refl
within_wide false b h = cc

narrow_character : (wide : Bool) (x : ℕ) → is_strange x ≡ false → is_character wide x ≡ true
narrow_character wide x h = within_wide (is_within 32 126 x) (wide && nat_le 128 x) h

pub narrow_characters : (wide : Bool) (text : List ℕ) → list_any is_strange text ≡ false → list_all (is_character wide) text ≡ true
narrow_characters wide [] h = refl
narrow_characters wide (x ∷ xs) h =
    let e = neither (is_strange x) (list_any is_strange xs) h in
    both_true (is_character wide x) (list_all (is_character wide) xs) (narrow_character wide x e.0) (narrow_characters wide xs e.1)
