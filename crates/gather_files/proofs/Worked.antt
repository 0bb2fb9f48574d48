-- Worked examples: which texts are read alone.
use Rattle.std.proofs.Common.{◌≡◌, ℕ, List, [], ◌∷◌, ◌++◌, true, false, length, map, refl, arith}
use Rattle.std.specs.Prelude.{codes}
use Rattle.night_definition.specs.Segments.{is_blank}
use Rattle.night_definition.specs.Interchanges.{Interchange, text_of}
use Rattle.gather_files.specs.Apart.{AreReadAlone, text_of_files}
use Rattle.gather_files.specs.Unfinished.{IsOpen, MayBegin, last_part}

header : List ℕ
header =
    codes "ISA*00*          *00*          *01*ACME           *ZZ*HUB            *260228*0900*^*00501*000000007*0*P*>~"

abbrev whole : List ℕ
whole = header ++ codes "TA1*1~IEA*0*000000007~"

-- it was cut off in a segment
abbrev cut : List ℕ
cut = header ++ codes "GS*PO*AC"

abbrev places : List ℕ → List (List ℕ)
places text = map (λ (x : Interchange). x.start ∷ x.end ∷ []) (text_of text).interchanges

size : length whole ≡ 128
unfolding header
size = refl

-- after a whole file the next one is read alone
two : AreReadAlone whole whole
unfolding header
two = refl

two_places : places (whole ++ whole) ≡ (0 ∷ 128 ∷ []) ∷ (128 ∷ 256 ∷ []) ∷ []
unfolding header
two_places = refl

-- CR and LF between them are no interchange's
with_line_ends : text_of_files ((whole ++ 13 ∷ 10 ∷ []) ∷ whole ∷ []) ≡ text_of ((whole ++ 13 ∷ 10 ∷ []) ++ whole)
unfolding header
with_line_ends = refl

-- a file that was cut off in a segment takes the next one into its last segment
one_place : places (cut ++ whole) ≡ (0 ∷ 242 ∷ []) ∷ []
unfolding header
one_place = refl

-- with the terminator that it lacks, it doesn't
three : AreReadAlone (cut ++ codes "~") whole
unfolding header
three = refl

-- the interchange that was cut off is open: with one byte more it ends elsewhere
open_end : IsOpen cut 0
unfolding header
open_end = record { more = codes "~"; elsewhere = λ same. (let places : 115 ≡ 114 = same in omega (arith, places)) }

-- its last segment isn't closed; with the terminator it is
not_closed : is_blank (last_part 126 (codes "GS*PO*AC")) ≡ false
not_closed = refl

closed : is_blank (last_part 126 (codes "GS*PO*AC~\r\n")) ≡ true
closed = refl

-- the first bytes of a header may begin one
begun : MayBegin (header ++ codes "IEA*0*000000007~ISA*00*") 122
unfolding header
begun = record {
  not_yet = refl;
  more = codes "          *00*          *01*ACME           *ZZ*HUB            *260228*0900*^*00501*000000008*0*P*>~";
  completed = refl;
}
