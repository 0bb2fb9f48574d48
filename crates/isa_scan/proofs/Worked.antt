-- The headers of a stretch on two interchanges with their own delimiters.
use Rattle.std.specs.Prelude.{◌≡◌, ℕ, ◌++◌, List, [], ◌∷◌, codes, length, refl}
use Rattle.x12_bytes.specs.declared.pair.Pair.{Pair}
use Rattle.x12_bytes.specs.HeaderTest.{is_header, has_fields}
use Rattle.isa_scan.specs.Heads.{heads_in, starts_in}

abbrev pub one_order : List ℕ
one_order =
    codes "ISA*00*          *00*          *01*ACME           *ZZ*HUB            *260228*0900*^*00501*000000007*0*P*>~"
    ++ codes "GS*PO*ACME*BOLT*20260228*0900*12*X*005010~ST*850*0001~BEG*00*SA*PO100**20260228~PO1*1*5*EA*2.50~"
    ++ codes "SE*4*0001~GE*1*12~IEA*1*000000007~"

abbrev pub second_partner : List ℕ
second_partner =
    codes "ISA|00|          |00|          |ZZ|BOLT           |ZZ|HUB            |260228|0915|^|00501|000000003|0|P|:!"
    ++ codes "GS|PO|BOLT|ACME|20260228|0915|3|X|005010!ST|850|0001!BEG|05|NE|B7||20260227!PO1||1|CA!"
    ++ codes "SE|4|0001!GE|1|3!IEA|1|000000003!"

abbrev pub text : List ℕ
text = one_order ++ second_partner

abbrev pub stars : Pair
stars = record { element = 42; terminator = 126 }

abbrev pub bars : Pair
bars = record { element = 124; terminator = 33 }

length_of_one_order : length one_order ≡ 236
length_of_one_order = refl

-- a header that begins in a stretch may end after it
cut_in_the_second_header : heads_in text 236 289 ≡ record { start = 236; pair = bars } ∷ []
unfolding is_header has_fields
cut_in_the_second_header = refl

up_to_the_second_header : heads_in text 0 236 ≡ record { start = 0; pair = stars } ∷ []
unfolding is_header has_fields
up_to_the_second_header = refl

behind_its_first_byte : starts_in text 237 289 ≡ []
unfolding is_header has_fields
behind_its_first_byte = refl

behind_the_cut : starts_in text 289 (length text) ≡ []
unfolding is_header has_fields
behind_the_cut = refl
