-- Each line of a record is one line.
use Rattle.std.proofs.Common.{◌≡◌, ◌∙◌, ℕ, ◌==◌, ◌≤◌, Bool, true, not, List, [], ◌∷◌, ◌++◌, None, Option, Some, arith, codes, map, refl}
use Rattle.std.specs.Prelude.{decimal}
use Rattle.std.specs.Char.{is_ascii_digit}
use Rattle.std.specs.List.{list_all}
use Rattle.std.proofs.lemmas.Bool.{and_from, and_parts, leb-true}
use Rattle.std.proofs.lemmas.Bool.Decides.{nat_tests}
use Rattle.std.proofs.lemmas.List.Folds.{list_all-append}
use Rattle.night_record.specs.Lines.{is_line}
use Rattle.night_record.specs.Record.{CanBe, are_files, before_text, file_line, files_lines, head_lines}
use Rattle.night_record.specs.Record.{is_before, is_file, number_line, record_lines, text_line, version_line}
use Rattle.night_record.specs.Refused.{lines_to}
use Rattle.night_record.specs.Values.{is_count, is_hex_digit, is_moment, is_name, is_name_byte, is_status, is_sum}
use Rattle.night_record.specs.declared.fault.Part.{Part}
use Rattle.night_record.specs.declared.fault.Part.TheVariants as part
use Rattle.night_record.specs.declared.record.NightRecord.{NightRecord}
use Rattle.night_record.specs.declared.record.SummedFile.{SummedFile}
use Rattle.night_record.proofs.Between.{file_parts}
use Rattle.night_record.proofs.Numbers.{decimal_written}

-- bytes that pass a test which no line feed passes
all_line : (p : ℕ → Bool) → ((b : ℕ) → p b ≡ true → not (b == 10) ≡ true) → (text : List ℕ) → list_all p text ≡ true → is_line text ≡ true
all_line p none [] all = refl
all_line p none (b ∷ text) all =
    let two = and_parts (p b) (list_all p text) all in
    and_from (not (b == 10)) (is_line text) (none b two.0) (all_line p none text two.1)

digit_none : (b : ℕ) → is_ascii_digit b ≡ true → not (b == 10) ≡ true
digit_none b is = grind (arith, nat_tests)

hex_none : (b : ℕ) → is_hex_digit b ≡ true → not (b == 10) ≡ true
hex_none b is = grind (arith, nat_tests)

name_none : (b : ℕ) → is_name_byte b ≡ true → not (b == 10) ≡ true
name_none b is = grind (arith, nat_tests)

joined_line : (a b : List ℕ) → is_line a ≡ true → is_line b ≡ true → is_line (a ++ b) ≡ true
joined_line a b one two = list_all-append (λ b. not (b == 10)) a b ∙ and_from (is_line a) (is_line b) one two

name_line : (text : List ℕ) → is_name text ≡ true → is_line text ≡ true
name_line text is = all_line is_name_byte name_none text ((and_parts _ (list_all is_name_byte text) is).1)

moment_line : (text : List ℕ) → is_moment text ≡ true → is_line text ≡ true
moment_line text is = all_line is_ascii_digit digit_none text ((and_parts _ (list_all is_ascii_digit text) is).1)

sum_line : (text : List ℕ) → is_sum text ≡ true → is_line text ≡ true
sum_line text is = all_line is_hex_digit hex_none text ((and_parts _ (list_all is_hex_digit text) is).1)

before_line : (before : Option (List ℕ)) → is_before before ≡ true → is_line (before_text before) ≡ true
before_line None is = refl
before_line (Some sum) is = sum_line sum is

number_is_line : (key : List ℕ) (n : ℕ) → is_line key ≡ true → n ≤ 999999999 → is_line (number_line key n) ≡ true
number_is_line key n one small =
    joined_line key (codes " = " ++ decimal n) one
    (all_line is_ascii_digit digit_none (decimal n) ((decimal_written n (omega arith)).0))

text_is_line : (key value : List ℕ) → is_line key ≡ true → is_line value ≡ true → is_line (text_line key value) ≡ true
text_is_line key value one two =
    joined_line key (codes " = \"" ++ (value ++ codes "\"")) one (joined_line value (codes "\"") two refl)

file_is_line : (file : SummedFile) → is_file file ≡ true → is_line (file_line file) ≡ true
file_is_line file can =
    let parts = file_parts file can in
    joined_line file.name (codes "\" = \"" ++ (file.sum ++ codes "\"")) (name_line file.name parts.0)
    (joined_line file.sum (codes "\"") (sum_line file.sum parts.1) refl)

each_line : (files : List SummedFile) → list_all is_file files ≡ true → list_all is_line (map file_line files) ≡ true
each_line [] can = refl
each_line (f ∷ fs) can =
    let two = and_parts (is_file f) (list_all is_file fs) can in
    and_from (is_line (file_line f)) (list_all is_line (map file_line fs)) (file_is_line f two.0) (each_line fs two.1)

titled_lines : (title : List ℕ) (files : List SummedFile) → is_line title ≡ true → are_files files ≡ true
    → list_all is_line (files_lines title files) ≡ true
titled_lines title files one can =
    and_from (is_line title) (list_all is_line (map file_line files)) one (each_line files ((and_parts (list_all is_file files) _ can).0))

pub small_count : (n : ℕ) → is_count n ≡ true → n ≤ 999999999
small_count n can = leb-true n 999999999 ((and_parts _ _ can).1)

pub small_status : (n : ℕ) → is_status n ≡ true → n ≤ 999999999
small_status n can = let low : n ≤ 6 = leb-true n 6 can in omega arith

both_lines : (a b : List (List ℕ)) → list_all is_line a ≡ true → list_all is_line b ≡ true → list_all is_line (a ++ b) ≡ true
both_lines a b one two = list_all-append is_line a b ∙ and_from (list_all is_line a) (list_all is_line b) one two

record First (lines : List (List ℕ)) : Type 0 where
  each : list_all is_line lines ≡ true

nothing : First []
nothing = record { each = refl }

one_more : (line : List ℕ) (lines : List (List ℕ)) → is_line line ≡ true → First lines → First (line ∷ lines)
one_more line lines one rest = record { each = and_from (is_line line) (list_all is_line lines) one rest.each }

-- the first lines up to any of them
from_clock : (night : NightRecord) → CanBe night → (rest : List (List ℕ)) → First rest → First (text_line (codes "clock")
    night.clock ∷ rest)
from_clock night can rest more =
    one_more (text_line (codes "clock") night.clock) rest (text_is_line (codes "clock") night.clock refl (moment_line night.clock
    can.clock)) more

from_release : (night : NightRecord) → CanBe night → (rest : List (List ℕ)) → First rest → First (text_line (codes "release")
    night.release ∷ rest)
from_release night can rest more =
    one_more (text_line (codes "release") night.release) rest (text_is_line (codes "release") night.release refl (name_line
    night.release can.release)) more

from_status : (night : NightRecord) → CanBe night → (rest : List (List ℕ)) → First rest → First (number_line (codes "status")
    night.status ∷ rest)
from_status night can rest more =
    one_more (number_line (codes "status") night.status) rest (number_is_line (codes "status") night.status refl (small_status
    night.status can.status)) more

from_before : (night : NightRecord) → CanBe night → (rest : List (List ℕ)) → First rest
    → First (text_line (codes "before") (before_text night.before) ∷ rest)
from_before night can rest more =
    one_more (text_line (codes "before") (before_text night.before)) rest (text_is_line (codes "before") (before_text night.before)
    refl (before_line night.before can.before)) more

from_moment : (night : NightRecord) → CanBe night → (rest : List (List ℕ)) → First rest → First (text_line (codes "moment")
    night.moment ∷ rest)
from_moment night can rest more =
    one_more (text_line (codes "moment") night.moment) rest (text_is_line (codes "moment") night.moment refl (moment_line
    night.moment can.moment)) more

from_name : (night : NightRecord) → CanBe night → (rest : List (List ℕ)) → First rest → First (text_line (codes "name") night.name ∷ rest)
from_name night can rest more = one_more (text_line (codes "name") night.name) rest (text_is_line (codes "name") night.name refl
    (name_line night.name can.name)) more

from_number : (night : NightRecord) → CanBe night → (rest : List (List ℕ)) → First rest
    → First (number_line (codes "number") night.number ∷ rest)
from_number night can rest more =
    one_more (number_line (codes "number") night.number) rest (number_is_line (codes "number") night.number refl (small_count
    night.number can.number)) more

head_first : (night : NightRecord) → CanBe night → First (head_lines night)
head_first night can =
    one_more version_line _ refl (from_number night can _ (from_name night can _ (from_moment night can _ (from_before night can _
    (from_status night can _
    (from_release night can _ (from_clock night can [] nothing)))))))

head_clean : (night : NightRecord) → CanBe night → list_all is_line (head_lines night) ≡ true
head_clean night can = (head_first night can).each

pub record_clean : (night : NightRecord) → CanBe night → list_all is_line (record_lines night) ≡ true
record_clean night can =
    both_lines (head_lines night) (files_lines (codes "[made_of]") night.made_of ++ files_lines (codes "[gave]") night.gave)
    (head_clean night can)
    (both_lines (files_lines (codes "[made_of]") night.made_of) (files_lines (codes "[gave]") night.gave)
    (titled_lines (codes "[made_of]") night.made_of refl can.made_of) (titled_lines (codes "[gave]") night.gave refl can.gave))

part_first : (last : Part) (night : NightRecord) → CanBe night → First (lines_to last night)
part_first part.Version night can = one_more version_line [] refl nothing
part_first part.Number night can =
    one_more version_line _ refl (from_number night can [] nothing)
part_first part.Name night can =
    one_more version_line _ refl (from_number night can _ (from_name night can [] nothing))
part_first part.Moment night can =
    one_more version_line _ refl (from_number night can _ (from_name night can _ (from_moment night can [] nothing)))
part_first part.Before night can =
    one_more version_line _ refl (from_number night can _ (from_name night can _ (from_moment night can _ (from_before night can []
    nothing))))
part_first part.Status night can =
    one_more version_line _ refl (from_number night can _ (from_name night can _ (from_moment night can _ (from_before night can _
    (from_status night can [] nothing)))))
part_first part.Release night can =
    one_more version_line _ refl (from_number night can _ (from_name night can _ (from_moment night can _ (from_before night can _
    (from_status night can _
    (from_release night can [] nothing))))))
part_first part.Clock night can = head_first night can
part_first part.MadeOf night can = record {
  each = both_lines (head_lines night) (files_lines (codes "[made_of]") night.made_of ++ [] ∷ []) (head_clean night can)
      (both_lines (files_lines (codes "[made_of]") night.made_of) ([] ∷ [])
      (titled_lines (codes "[made_of]") night.made_of refl can.made_of) refl);
}
part_first part.Gave night can = record { each = record_clean night can }

pub part_clean : (last : Part) (night : NightRecord) → CanBe night → list_all is_line (lines_to last night) ≡ true
part_clean last night can = (part_first last night can).each
