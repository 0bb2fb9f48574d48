-- Ids, delimiters and what is given twice, on examples.
use Rattle.std.specs.Prelude.{ℕ, ◌≡◌, List, [], ◌∷◌, codes, refl, true, false, Some, None}
use Rattle.hub_kinds.specs.Words.{has_twice}
use Rattle.partner_setup.specs.declared.rows.PartnerRow.{PartnerRow}
use Rattle.partner_setup.specs.SetupFaults.{key_of_texts, is_id, may_delimit, may_end, byte_of, are_ids, delims_of, is_cap, is_counter}
use Rattle.partner_setup.specs.Names.{place_of, places_of_texts, those_at}

shortest_id : is_id 1 15 (codes "A") ≡ true
shortest_id = refl

no_id : is_id 1 15 [] ≡ false
no_id = refl

id_of_fifteen : is_id 1 15 (codes "ABCDE-FGH.IJ_01") ≡ true
id_of_fifteen = refl

id_of_sixteen : is_id 1 15 (codes "ABCDE-FGH.IJ_012") ≡ false
id_of_sixteen = refl

code_of_one : is_id 2 15 (codes "A") ≡ false
code_of_one = refl

code_of_two : is_id 2 15 (codes "AB") ≡ true
code_of_two = refl

space_inside : is_id 1 15 (codes "A B") ≡ true
space_inside = refl

space_at_the_end : is_id 1 15 (codes "AB ") ≡ false
space_at_the_end = refl

space_in_front : is_id 1 15 (codes " AB") ≡ false
space_in_front = refl

other_byte_inside : is_id 1 15 (codes "A*B") ≡ false
other_byte_inside = refl

ids : are_ids (codes "ZZ") (codes "A") (codes "AB") ≡ true
ids = refl

qualifier_of_one : are_ids (codes "Z") (codes "A") (codes "AB") ≡ false
qualifier_of_one = refl

qualifier_of_three : are_ids (codes "ZZZ") (codes "A") (codes "AB") ≡ false
qualifier_of_three = refl

qualifier_with_a_point : are_ids (codes "Z.") (codes "A") (codes "AB") ≡ false
qualifier_with_a_point = refl

-- 0x1C to 0x1F, 0x21 to 0x7E, and what stands next to these
below_the_first : may_delimit 27 ≡ false
below_the_first = refl

the_first : may_delimit 28 ≡ true
the_first = refl

the_last_that_prints_nothing : may_delimit 31 ≡ true
the_last_that_prints_nothing = refl

space : may_delimit 32 ≡ false
space = refl

exclamation_mark : may_delimit 33 ≡ true
exclamation_mark = refl

tilde : may_delimit 126 ≡ true
tilde = refl

delete : may_delimit 127 ≡ false
delete = refl

hyphen : may_delimit 45 ≡ false
hyphen = refl

point : may_delimit 46 ≡ false
point = refl

low_line : may_delimit 95 ≡ false
low_line = refl

letter : may_delimit 65 ≡ false
letter = refl

digit : may_delimit 48 ≡ false
digit = refl

carriage_return_separates : may_delimit 13 ≡ false
carriage_return_separates = refl

carriage_return_ends : may_end 13 ≡ true
carriage_return_ends = refl

line_feed_ends : may_end 10 ≡ true
line_feed_ends = refl

tilde_ends : may_end 126 ≡ true
tilde_ends = refl

tab_ends : may_end 9 ≡ false
tab_ends = refl

one_byte : byte_of (codes "*") ≡ Some 42
one_byte = refl

two_bytes : byte_of (codes "**") ≡ None
two_bytes = refl

no_byte : byte_of [] ≡ None
no_byte = refl

abbrev pub with_delimiters : (element component repetition terminator : List ℕ) → PartnerRow
with_delimiters e c r t = record {
  name = codes "ACME";
  qualifier = codes "01";
  id = codes "ACME";
  code = codes "ACME";
  element = e;
  component = c;
  repetition = r;
  terminator = t;
  cap = 2;
  guides = [];
}

four_delimiters : delims_of (with_delimiters (codes "*") (codes ">") (codes "^") (codes "~"))
    ≡ Some (record { element = 42; component = 62; repetition = Some 94; terminator = 126 })
four_delimiters = refl

element_as_component : delims_of (with_delimiters (codes "*") (codes "*") (codes "^") (codes "~")) ≡ None
element_as_component = refl

element_as_repetition : delims_of (with_delimiters (codes "*") (codes ">") (codes "*") (codes "~")) ≡ None
element_as_repetition = refl

element_as_terminator : delims_of (with_delimiters (codes "*") (codes ">") (codes "^") (codes "*")) ≡ None
element_as_terminator = refl

component_as_repetition : delims_of (with_delimiters (codes "*") (codes ">") (codes ">") (codes "~")) ≡ None
component_as_repetition = refl

component_as_terminator : delims_of (with_delimiters (codes "*") (codes ">") (codes "^") (codes ">")) ≡ None
component_as_terminator = refl

repetition_as_terminator : delims_of (with_delimiters (codes "*") (codes ">") (codes "^") (codes "^")) ≡ None
repetition_as_terminator = refl

line_feed_as_terminator : delims_of (with_delimiters (codes "*") (codes ">") (codes "^") (codes "\n"))
    ≡ Some (record { element = 42; component = 62; repetition = Some 94; terminator = 10 })
line_feed_as_terminator = refl

line_feed_as_component : delims_of (with_delimiters (codes "*") (codes "\n") (codes "^") (codes "~")) ≡ None
line_feed_as_component = refl

two_bytes_as_terminator : delims_of (with_delimiters (codes "*") (codes ">") (codes "^") (codes "\r\n")) ≡ None
two_bytes_as_terminator = refl

-- what is told apart by two texts isn't told apart by what they are put together
told_apart : has_twice (λ (s : List ℕ). s) (key_of_texts (codes "1") (codes "2X") [] ∷ key_of_texts (codes "12") (codes "X") [] ∷ [])
    ≡ false
told_apart = refl

told_alike : has_twice (λ (s : List ℕ). s) (key_of_texts (codes "12") (codes "X") [] ∷ key_of_texts (codes "12") (codes "X") [] ∷ []) ≡ true
told_alike = refl

third_given_twice : has_twice (λ (s : List ℕ). s) (codes "A" ∷ codes "B" ∷ codes "A" ∷ []) ≡ true
third_given_twice = refl

none_given_twice : has_twice (λ (s : List ℕ). s) (codes "A" ∷ codes "B" ∷ codes "C" ∷ []) ≡ false
none_given_twice = refl

least_cap : is_cap 1 ≡ true
least_cap = refl

no_cap : is_cap 0 ≡ false
no_cap = refl

greatest_cap : is_cap 99999 ≡ true
greatest_cap = refl

cap_too_great : is_cap 100000 ≡ false
cap_too_great = refl

least_counter : is_counter 1 ≡ true
least_counter = refl

no_counter : is_counter 0 ≡ false
no_counter = refl

greatest_counter : is_counter 999999999 ≡ true
greatest_counter = refl

counter_too_great : is_counter 1000000000 ≡ false
counter_too_great = refl

first_place_of_a_name : place_of (codes "A" ∷ codes "B" ∷ codes "B" ∷ []) (codes "B") ≡ Some 1
first_place_of_a_name = refl

place_of_the_front : place_of (codes "A" ∷ codes "B" ∷ []) (codes "A") ≡ Some 0
place_of_the_front = refl

no_place : place_of (codes "A" ∷ codes "B" ∷ []) (codes "AB") ≡ None
no_place = refl

places_that_are_there : places_of_texts (codes "A" ∷ codes "B" ∷ []) (codes "B" ∷ codes "C" ∷ codes "A" ∷ []) ≡ 1 ∷ 0 ∷ []
places_that_are_there = refl

values_that_are_there : those_at (codes "A" ∷ codes "B" ∷ []) (1 ∷ 2 ∷ 0 ∷ []) ≡ codes "B" ∷ codes "A" ∷ []
values_that_are_there = refl
