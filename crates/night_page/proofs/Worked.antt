-- Whether rows give the totals of a report, on an example: set 0001 goes to BOLT and is held for CARL, set 0002 is rejected, a set of
-- acknowledgments is listed, and a second interchange is refused.
use Rattle.std.proofs.Common.{◌≡◌, ◌∙◌, ℕ, true, List, [], ◌∷◌, ap, arith, codes, decimal, refl}
use Rattle.std.specs.List.{count_by}
use Rattle.std.specs.Str.{bytes_eq}
use Rattle.std.proofs.lemmas.Fmt.{decimal-digits_of}
use Rattle.csv.specs.Records.{field_at}
use Rattle.night_search.specs.Lines.{joined}
use Rattle.night_page.specs.Rows.{Row}
use Rattle.night_page.specs.Totals.{firsts, gives_totals, is_accepted, is_counted, total_text}

-- offset, GS06, ST02, outcome and receiver of a row; its other fields are empty
abbrev row_of : (offset gs06 st02 outcome receiver : List ℕ) → Row
row_of offset gs06 st02 outcome receiver =
    [] ∷ offset ∷ [] ∷ [] ∷ [] ∷ [] ∷ [] ∷ gs06 ∷ [] ∷ [] ∷ [] ∷ [] ∷ [] ∷ st02 ∷ [] ∷ [] ∷ [] ∷ [] ∷ outcome ∷ [] ∷ [] ∷ receiver
    ∷ [] ∷ [] ∷ [] ∷ []

abbrev to_bolt : Row
to_bolt = row_of (codes "0") (codes "12") (codes "0001") (codes "delivered") (codes "BOLT")

abbrev for_carl : Row
for_carl = row_of (codes "0") (codes "12") (codes "0001") (codes "held delimiter") (codes "CARL")

abbrev rejected : Row
rejected = row_of (codes "0") (codes "12") (codes "0002") (codes "rejected") []

abbrev listed : Row
listed = row_of (codes "0") (codes "13") (codes "0001") (codes "listed") []

abbrev refused : Row
refused = row_of (codes "910") [] [] (codes "refused") []

abbrev night : List Row
night = to_bolt ∷ for_carl ∷ rejected ∷ listed ∷ refused ∷ []

abbrev line : List ℕ
line = codes "total interchanges 2 refused 1 groups 1 sets 2 accepted 1 held 1 outside 0"

first_rows : firsts night ≡ to_bolt ∷ rejected ∷ listed ∷ refused ∷ []
unfolding field_at
first_rows = refl

abbrev line_with : (refused sets accepted held : List ℕ) → List ℕ
line_with refused sets accepted held =
    joined (codes "total interchanges " ∷ codes "2" ∷ codes " refused " ∷ refused ∷ codes " groups " ∷ codes "1" ∷ codes " sets " ∷ sets
    ∷ codes " accepted " ∷ accepted ∷ codes " held " ∷ held ∷ codes " outside " ∷ codes "0" ∷ [])

one : decimal 1 ≡ codes "1"
one = decimal-digits_of 1 (omega arith) (omega arith)

two : decimal 2 ≡ codes "2"
two = decimal-digits_of 2 (omega arith) (omega arith)

line_is : total_text (codes "2") (codes "1") (codes "0") night ≡ line
unfolding field_at
line_is =
    ap (λ (n : List ℕ). line_with n (decimal 2) n n) one ∙ ap (λ (n : List ℕ). line_with (codes "1") n (codes "1") (codes "1")) two

gives : gives_totals line night ≡ true
gives = ap (λ (text : List ℕ). bytes_eq line text) line_is

-- a row that is there twice is taken for another set
row_twice : count_by is_counted (firsts (to_bolt ∷ to_bolt ∷ [])) ≡ 2
unfolding field_at
row_twice = refl

receiver_again : count_by is_counted (firsts (to_bolt ∷ for_carl ∷ to_bolt ∷ [])) ≡ 2
unfolding field_at
receiver_again = refl

-- a table that was cut before the rejected set, and one without the first set
table_cut : count_by is_counted (firsts (to_bolt ∷ for_carl ∷ [])) ≡ 1
unfolding field_at
table_cut = refl

first_set_left_out : count_by is_accepted (firsts (rejected ∷ listed ∷ refused ∷ [])) ≡ 0
unfolding field_at
first_set_left_out = refl

-- the offset of a row tells two sets with the same numbers apart
two_interchanges : count_by is_counted (firsts (to_bolt ∷ row_of (codes "910") (codes "12") (codes "0001") (codes "delivered")
    (codes "CARL") ∷ [])) ≡ 2
unfolding field_at
two_interchanges = refl
