-- Records, tables and their values on examples.
use Rattle.std.specs.Prelude.{◌≡◌, ℕ, [], ◌∷◌, ◌++◌, None, codes, false, refl, replicate, true}
use Rattle.night_record.specs.Record.{are_files, before_text, file_line, text_line}
use Rattle.night_record.specs.Tables.{address_of, are_addresses, taken_text}
use Rattle.night_record.specs.Values.{are_rising, comes_before, is_count, is_moment, is_name, is_status, is_sum}
use Rattle.night_record.specs.declared.addresses.AddressNext.{AddressNext}
use Rattle.night_record.specs.declared.record.SummedFile.{SummedFile}
use Rattle.night_record.specs.declared.taken.TakenInterchange.{TakenInterchange}

first_number : is_count 1 ≡ true
first_number = refl

no_number_zero : is_count 0 ≡ false
no_number_zero = refl

ten_digits : is_count 1000000000 ≡ false
ten_digits = refl

rejected_night : is_status 1 ≡ true
rejected_night = refl

moment_of_a_night : is_moment (codes "202703022300") ≡ true
moment_of_a_night = refl

moment_without_minutes : is_moment (codes "2027030223") ≡ false
moment_without_minutes = refl

whole_sum : is_sum (replicate 64 97) ≡ true
whole_sum = refl

sum_of_63_digits : is_sum (replicate 63 97) ≡ false
sum_of_63_digits = refl

capital_letters : is_sum (replicate 64 65) ≡ false
capital_letters = refl

name_of_a_file : is_name (codes "from/guides/850 mart.toml") ≡ true
name_of_a_file = refl

-- a name may have letters that aren't ASCII
umlaut : is_name (77 ∷ 195 ∷ 188 ∷ []) ≡ true
umlaut = refl

quote : is_name (codes "a\"b") ≡ false
quote = refl

line_feed : is_name (codes "a\nb") ≡ false
line_feed = refl

no_name : is_name [] ≡ false
no_name = refl

-- a name comes after its own beginning
longer_name : comes_before (codes "out/BOLT") (codes "out/BOLT.ack") ≡ true
longer_name = refl

in_order : are_rising (codes "out/BOLT.ack" ∷ codes "out/BOLT.box" ∷ codes "total" ∷ []) ≡ true
in_order = refl

twice : are_rising (codes "total" ∷ codes "total" ∷ []) ≡ false
twice = refl

out_of_order : are_rising (codes "total" ∷ codes "out/BOLT.box" ∷ []) ≡ false
out_of_order = refl

abbrev total : SummedFile
total = record { name = codes "total"; sum = replicate 64 48 }

line_of_a_file : file_line total ≡ codes "\"total\" = \"" ++ (replicate 64 48 ++ codes "\"")
line_of_a_file = refl

one_file : are_files (total ∷ []) ≡ true
one_file = refl

same_file_twice : are_files (total ∷ total ∷ []) ≡ false
same_file_twice = refl

line_of_the_first_night : text_line (codes "before") (before_text None) ≡ codes "before = \"none\""
line_of_the_first_night = refl

abbrev mart : TakenInterchange
mart = record { isa05 = codes "08"; isa06 = codes "925485US00"; isa07 = codes "ZZ"; isa08 = codes "HUB, INC"; isa13 = codes "000000041" }

-- an id with a comma is in quotation marks
one_taken : taken_text (mart ∷ []) ≡ codes "isa05,isa06,isa07,isa08,isa13\r\n08,925485US00,ZZ,\"HUB, INC\",000000041\r\n"
one_taken = refl

none_taken : taken_text [] ≡ codes "isa05,isa06,isa07,isa08,isa13\r\n"
none_taken = refl

abbrev next_of : ℕ → AddressNext
next_of n = record { qualifier = codes "08"; id = codes "925485US00"; next = record { interchange = n; group = 1; set = 1 } }

address_with_a_space : address_of (next_of 6) ≡ codes "08 925485US00"
address_with_a_space = refl

one_address : are_addresses (next_of 6 ∷ []) ≡ true
one_address = refl

one_address_twice : are_addresses (next_of 6 ∷ next_of 7 ∷ []) ≡ false
one_address_twice = refl

number_past_the_last : are_addresses (next_of 1000000000 ∷ []) ≡ false
number_past_the_last = refl
