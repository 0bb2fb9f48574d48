-- Chains of records, and the lines on what breaks them, on examples.
use Rattle.std.proofs.Common.{◌≡◌, ℕ, List, [], ◌∷◌, ◌++◌, Option, Some, None, arith, codes, decimal, refl}
use Rattle.std.proofs.lemmas.Fmt.{decimal-digits_of}
use Rattle.night_record.specs.declared.record.SummedFile.{SummedFile}
use Rattle.record_chain.specs.Breaks.{breaks_after}
use Rattle.record_chain.specs.Lines.{break_words, number_words, record_words}
use Rattle.record_chain.specs.declared.breaks.ChainBreak.TheVariants as chain
use Rattle.record_chain.specs.declared.breaks.FileFault.TheVariants as fault
use Rattle.record_chain.specs.declared.breaks.OtherNumber.{OtherNumber}
use Rattle.record_chain.specs.declared.night.ReadNight.{ReadNight}

abbrev file : (name sum : List ℕ) → SummedFile
file name sum = record { name = name; sum = sum }

-- a night that gave one file, with the sum of its record
abbrev night : ℕ → (name : List ℕ) → (before : Option (List ℕ)) → (sum : List ℕ) → (found : List SummedFile) → ReadNight
night number name before sum found = record {
  «record» = record {
    number = number;
    name = name;
    moment = codes "202703022300";
    before = before;
    status = 0;
    release = codes "0.9";
    clock = codes "202703022301";
    made_of = [];
    gave = file (codes "total") (codes "ab") ∷ [];
  };
  sum = sum;
  found = found;
}

-- what lies in a night's folder
abbrev whole : List SummedFile
whole = file (codes "done") (codes "cd") ∷ file (codes "total") (codes "ab") ∷ []

abbrev sun : ReadNight
sun = night 1 (codes "sun") None (codes "01") whole

abbrev mon : ReadNight
mon = night 2 (codes "mon") (Some (codes "01")) (codes "02") whole

two_nights : breaks_after None (sun ∷ mon ∷ []) ≡ []
two_nights = refl

-- night 1 was taken out
abbrev one_missing : OtherNumber
one_missing = record { number = 2; name = codes "mon"; before = 0; before_name = [] }

first_night_missing : breaks_after None (mon ∷ []) ≡ chain.Number one_missing ∷ []
first_night_missing = refl

-- the record of night 1 was changed
other_record : breaks_after None (night 1 (codes "sun") None (codes "99") whole ∷ mon ∷ [])
    ≡ chain.Record (record { number = 2; before = 1 }) ∷ []
other_record = refl

-- a file was changed, one is gone, and one was put there
changed : breaks_after None (night 1 (codes "sun") None (codes "01") (file (codes "total") (codes "ef") ∷ []) ∷ [])
    ≡ chain.File (record { number = 1; name = codes "sun"; file = codes "total"; fault = fault.Changed }) ∷ []
changed = refl

gone : breaks_after None (night 1 (codes "sun") None (codes "01") [] ∷ [])
    ≡ chain.File (record { number = 1; name = codes "sun"; file = codes "total"; fault = fault.Gone }) ∷ []
gone = refl

not_listed : breaks_after None (night 1 (codes "sun") None (codes "01") (file (codes "out/BOLT.box") (codes "ef") ∷ whole) ∷ [])
    ≡ chain.File (record { number = 1; name = codes "sun"; file = codes "out/BOLT.box"; fault = fault.NotListed }) ∷ []
not_listed = refl

-- lines
one : decimal 1 ≡ codes "1"
one = decimal-digits_of 1 (omega arith) (omega arith)

nine : decimal 9 ≡ codes "9"
nine = decimal-digits_of 9 (omega arith) (omega arith)

eleven : decimal 11 ≡ codes "11"
eleven = decimal-digits_of 11 (omega arith) (omega arith)

twelve : decimal 12 ≡ codes "12"
twelve = decimal-digits_of 12 (omega arith) (omega arith)

thirteen : decimal 13 ≡ codes "13"
thirteen = decimal-digits_of 13 (omega arith) (omega arith)

line_of_a_missing_night : number_words one_missing ≡ codes "night 1 is missing"
line_of_a_missing_night = λ i. codes "night " ++ (one i ++ codes " is missing")

line_of_missing_nights : number_words (record { number = 14; name = codes "wed"; before = 10; before_name = codes "sat" })
    ≡ codes "nights 11 to 13 are missing"
line_of_missing_nights = λ i. codes "nights " ++ (eleven i ++ (codes " to " ++ (thirteen i ++ codes " are missing")))

line_of_a_late_night : number_words (record { number = 9; name = codes "fri"; before = 12; before_name = codes "mon" })
    ≡ codes "night 9 (fri) comes after night 12 (mon)"
line_of_a_late_night =
    λ i. codes "night " ++ ((nine i ++ codes " (fri)") ++ (codes " comes after night " ++ (twelve i ++ codes " (mon)")))

line_of_another_record : record_words (record { number = 13; before = 12 }) ≡ codes "night 12's record isn't the one that night 13 names"
line_of_another_record =
    λ i. codes "night " ++ (twelve i ++ (codes "'s record isn't the one that night " ++ (thirteen i ++ codes " names")))

line_of_a_file : break_words (chain.File (record { number = 12; name = codes "mon"; file = codes "out/BOLT.box"; fault = fault.Changed }))
    ≡ codes "night 12 (mon) isn't what its record says: out/BOLT.box was changed"
line_of_a_file =
    λ i. codes "night " ++ ((twelve i ++ codes " (mon)") ++ codes " isn't what its record says: out/BOLT.box was changed")
