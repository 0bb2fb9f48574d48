-- Files, taken interchanges and addresses on examples.
use Rattle.std.specs.Prelude.{◌≡◌, ℕ, List, [], ◌∷◌, ◌++◌, Some, None, codes, refl, true}
use Rattle.night_record.specs.Tables.{are_addresses}
use Rattle.night_record.specs.declared.addresses.AddressNext.{AddressNext}
use Rattle.night_record.specs.declared.taken.TakenInterchange.{TakenInterchange}
use Rattle.kept_files.specs.Addresses.{known_of, next_of}
use Rattle.kept_files.specs.Files.{file, input_of}
use Rattle.kept_files.specs.Sums.{line_of}
use Rattle.kept_files.specs.Taken.{interchange_in, taken_of}

-- as `sha256sum <FILE` prints it
line_without_a_name : line_of (codes "-") (codes "9f86") ≡ codes "9f86  -\n"
line_without_a_name = refl

line_of_a_file : line_of (codes "out/BOLT.box") (codes "9f86") ≡ codes "9f86  out/BOLT.box\n"
line_of_a_file = refl

input_is_the_last : input_of (file (codes "from/setup.toml") (codes "[hub]") ∷ file (codes "from/in.x12") (codes "ISA") ∷ []) ≡ codes "ISA"
input_is_the_last = refl

input_of_no_file : input_of [] ≡ []
input_of_no_file = refl

-- two keys of one interchange and one of another
abbrev mart : List ℕ
mart = codes "08925485US00     ZZHUB            000000041"

abbrev bolt : List ℕ
bolt = codes "ZZBOLT           ZZHUB            000000041"

abbrev key : (interchange rest : List ℕ) → List ℕ
key interchange rest = interchange ++ rest

abbrev of_mart : TakenInterchange
of_mart = record {
  isa05 = codes "08";
  isa06 = codes "925485US00     ";
  isa07 = codes "ZZ";
  isa08 = codes "HUB            ";
  isa13 = codes "000000041";
}

interchange_of_a_key : interchange_in (key mart (codes "1.0001.ZZ BOLT")) ≡ of_mart
interchange_of_a_key = refl

each_once : taken_of (key mart (codes "1.0001.ZZ BOLT") ∷ key mart (codes "1.0002.ZZ BOLT") ∷ key bolt (codes "7.0001.08 925485US00") ∷ [])
    ≡ of_mart ∷ interchange_in bolt ∷ []
each_once = refl

none_delivered : taken_of [] ≡ []
none_delivered = refl

-- a key that no set has
short_key : interchange_in (codes "08925") ≡ record { isa05 = codes "08"; isa06 = codes "925"; isa07 = []; isa08 = []; isa13 = [] }
short_key = refl

abbrev row : (id : List ℕ) → ℕ → AddressNext
row id n = record { qualifier = codes "ZZ"; id = id; next = record { interchange = n; group = 1; set = 1 } }

abbrev older : List AddressNext
older = row (codes "ACME") 7 ∷ row (codes "BOLT") 3 ∷ []

abbrev tonight : List AddressNext
tonight = row (codes "BOLT") 4 ∷ row (codes "MART") 2 ∷ []

address_that_is_gone : known_of (codes "ZZ ACME") older tonight ≡ Some (row (codes "ACME") 7)
address_that_is_gone = refl

address_of_both : known_of (codes "ZZ BOLT") older tonight ≡ Some (row (codes "BOLT") 4)
address_of_both = refl

address_of_nobody : known_of (codes "ZZ COLT") older tonight ≡ None
address_of_nobody = refl

last_row_counts : next_of (codes "ZZ BOLT") (row (codes "BOLT") 3 ∷ row (codes "BOLT") 4 ∷ []) ≡ Some (row (codes "BOLT") 4)
last_row_counts = refl

next_table : are_addresses (row (codes "ACME") 7 ∷ row (codes "BOLT") 4 ∷ row (codes "MART") 2 ∷ []) ≡ true
next_table = refl
