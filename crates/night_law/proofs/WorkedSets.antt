-- The sets of a small mailbox, found in its bytes, and what they say.
use Rattle.std.proofs.Common.{◌≡◌, [], ◌∷◌, Some, refl}
use Rattle.std.specs.Prelude.{codes}
use Rattle.x12_bytes.specs.declared.delims.Delims.{Delims}
use Rattle.night_law.specs.SetsRead.{plainly, values_of_segment, said_in, sets_found}

marks : Delims
marks = record { element = 42; component = 62; repetition = Some 94; terminator = 126 }

others : Delims
others = record { element = 124; component = 58; repetition = Some 43; terminator = 10 }

-- the segments around sets are no part of them
two_are_found : sets_found marks (codes "GS*PO~ST*850*0001~BEG*1~SE*3*0001~ST*850*0002~SE*2*0002~GE*2~")
    ≡ ((codes "ST" ∷ codes "850" ∷ codes "0001" ∷ []) ∷ (codes "BEG" ∷ codes "1" ∷ []) ∷ (codes "SE" ∷ codes "3" ∷ codes "0001" ∷ []) ∷ [])
    ∷ ((codes "ST" ∷ codes "850" ∷ codes "0002" ∷ []) ∷ (codes "SE" ∷ codes "2" ∷ codes "0002" ∷ []) ∷ []) ∷ []
unfolding marks
two_are_found = refl

-- an ST without SE is no set, nor is an SE without ST
unclosed_are_none : sets_found marks (codes "ST*850*0001~BEG*1~ST*850*0002~SE*2*0002~SE*2*0003~")
    ≡ ((codes "ST" ∷ codes "850" ∷ codes "0002" ∷ []) ∷ (codes "SE" ∷ codes "2" ∷ codes "0002" ∷ []) ∷ []) ∷ []
unfolding marks
unclosed_are_none = refl

-- the same is said under other delimiters
same_is_said : values_of_segment marks (codes "PID" ∷ codes "A>B^C" ∷ codes "D" ∷ []) ≡ values_of_segment others
    (codes "PID" ∷ codes "A:B+C" ∷ codes "D" ∷ [])
unfolding marks others
same_is_said = refl

-- an element says its occurrences and their components, and a plain one itself
an_element_says : said_in marks (codes "A>B^C") ≡ (codes "A" ∷ codes "B" ∷ []) ∷ (codes "C" ∷ []) ∷ []
unfolding marks
an_element_says = refl

says_itself : said_in marks (codes "A:B") ≡ plainly (codes "A:B")
unfolding marks
says_itself = refl
