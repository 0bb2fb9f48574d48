-- The sets and the interchanges that are reported are the responses and the TA1s of the text.
use Rattle.std.proofs.Common.{◌≡◌, ℕ, Bool, true, false, List, [], ◌∷◌, ◌++◌, bytes_eq, refl, ap, ◌∙◌}
use Rattle.std.specs.Prelude.{codes, if◌then◌else◌}
use Rattle.std.specs.List.{flat_map}
use Rattle.std.proofs.lemmas.Grind.{flat_map-append}
use Rattle.std.proofs.lemmas.Slice.Eq.{bytes_eq-Decides}
use Rattle.x12_bytes.specs.declared.delims.Delims.{Delims}
use Rattle.night_definition.specs.Segments.{Elements, element}
use Rattle.night_definition.specs.ReadBack.{segments_in}
use Rattle.night_equal.proofs.ForAbove.{segments_are}
use Rattle.ack_read.specs.declared.kind.AckKind.{AckKind}
use Rattle.ack_read.specs.declared.kind.AckKind.TheVariants as kind
use Rattle.ack_read.specs.Reading.{response_by, responses_told, ta1_by, ta1s_told}
use Rattle.ack_read.specs.Responses.{Response, responses_behind, responses_in}
use Rattle.ack_read.specs.Ta1s.{Ta1, ta1s_among, ta1s_in, ta1s_of}
use Rattle.ack_read.specs.Told.{Standing, at_begin, behind, behind_kind, told_behind, reports_of_segment, told_by_kind, told_in}

-- the kind of an id, by what it is equal to
abbrev kind_by : (set response ta1 segment element group verdict header : Bool) → AckKind
kind_by set response ta1 segment element group verdict header =
    if set then kind.SetHeader
    else if response then kind.SetResponse
    else if ta1 then kind.Ta1
    else if segment then kind.SegmentNote
    else if element then kind.ElementNote
    else if group then kind.GroupHeader
    else if verdict then kind.GroupResponse
    else if header then kind.InterchangeHeader
    else kind.Other

-- what is read of a set by a segment of this kind, and by those after it
set_by : (d : Delims) (at : Standing) (s : Elements) (ss : List Elements) (a b c e f g h i : Bool)
    → flat_map response_by (told_by_kind at s (kind_by a b c e f g h i))
    ++ responses_behind (behind_kind d at s (kind_by a b c e f g h i)).identifier
    (behind_kind d at s (kind_by a b c e f g h i)).control ss
    ≡ if a then responses_behind (element 1 s) (element 2 s) ss
    else (if b
    then (let r : Response = record { identifier = at.identifier; control = at.control; code = element 1 s } in r)
    ∷ responses_behind at.identifier at.control ss
    else responses_behind at.identifier at.control ss)
set_by d at s ss true b c e f g h i = refl
set_by d at s ss false true c e f g h i = refl
set_by d at s ss false false true e f g h i = refl
set_by d at s ss false false false true f g h i = refl
set_by d at s ss false false false false true g h i = refl
set_by d at s ss false false false false false true h i = refl
set_by d at s ss false false false false false false true i = refl
set_by d at s ss false false false false false false false true = refl
set_by d at s ss false false false false false false false false = refl

sets_behind : (d : Delims) (at : Standing) (ss : List Elements)
    → responses_told (told_behind d at ss) ≡ responses_behind at.identifier at.control ss
sets_behind d at [] = refl
sets_behind d at (s ∷ ss) =
    let id : List ℕ = element 0 s in
    flat_map-append response_by (reports_of_segment at s) (told_behind d (behind d at s) ss)
    ∙ ap (λ (rs : List Response). flat_map response_by (reports_of_segment at s) ++ rs) (sets_behind d (behind d at s) ss)
    ∙ set_by d at s ss (bytes_eq id (codes "AK2")) (bytes_eq id (codes "IK5")) (bytes_eq id (codes "TA1")) (bytes_eq id (codes "IK3"))
    (bytes_eq id (codes "IK4")) (bytes_eq id (codes "AK1")) (bytes_eq id (codes "AK9")) (bytes_eq id (codes "ISA"))

-- the sets that are reported are the responses of the text
pub sets_are_read : (d : Delims) (text : List ℕ) → responses_told (told_in d text) ≡ responses_in d text
sets_are_read d text = sets_behind d at_begin (segments_in d text) ∙ ap (responses_behind [] []) (segments_are d text)

-- another id isn't TA1
no_ta1 : (id other : List ℕ) → bytes_eq other (codes "TA1") ≡ false → bytes_eq id other ≡ true → bytes_eq id (codes "TA1") ≡ false
no_ta1 id other differs same = ap (λ (x : List ℕ). bytes_eq x (codes "TA1")) ((bytes_eq-Decides id other).0 same) ∙ differs

abbrev ta1_if : Bool → (segment : Elements) → List Ta1
ta1_if c s =
    if c
    then (let t : Ta1 = record {
      control = element 1 s;
      date = element 2 s;
      time = element 3 s;
      code = element 4 s;
      note = element 5 s;
    } in t) ∷ []
    else []

ta1_by_kind : (at : Standing) (s : Elements) (a b c e f g h i : Bool) → (a ≡ true → c ≡ false) → (b ≡ true → c ≡ false)
    → flat_map ta1_by (told_by_kind at s (kind_by a b c e f g h i)) ≡ ta1_if c s
ta1_by_kind at s true b true e f g h i x y = let z : true ≡ false = x refl in cc
ta1_by_kind at s true b false e f g h i x y = refl
ta1_by_kind at s false true true e f g h i x y = let z : true ≡ false = y refl in cc
ta1_by_kind at s false true false e f g h i x y = refl
ta1_by_kind at s false false true e f g h i x y = refl
ta1_by_kind at s false false false true f g h i x y = refl
ta1_by_kind at s false false false false true g h i x y = refl
ta1_by_kind at s false false false false false true h i x y = refl
ta1_by_kind at s false false false false false false true i x y = refl
ta1_by_kind at s false false false false false false false true x y = refl
ta1_by_kind at s false false false false false false false false x y = refl

one_ta1 : (at : Standing) (s : Elements) → flat_map ta1_by (reports_of_segment at s) ≡ ta1s_of s
one_ta1 at s =
    let id : List ℕ = element 0 s in
    ta1_by_kind at s (bytes_eq id (codes "AK2")) (bytes_eq id (codes "IK5")) (bytes_eq id (codes "TA1")) (bytes_eq id (codes "IK3"))
    (bytes_eq id (codes "IK4")) (bytes_eq id (codes "AK1")) (bytes_eq id (codes "AK9")) (bytes_eq id (codes "ISA"))
    (no_ta1 id (codes "AK2") refl) (no_ta1 id (codes "IK5") refl)

ta1s_behind : (d : Delims) (at : Standing) (ss : List Elements) → ta1s_told (told_behind d at ss) ≡ ta1s_among ss
ta1s_behind d at [] = refl
ta1s_behind d at (s ∷ ss) =
    flat_map-append ta1_by (reports_of_segment at s) (told_behind d (behind d at s) ss)
    ∙ ap (λ (ts : List Ta1). flat_map ta1_by (reports_of_segment at s) ++ ts) (ta1s_behind d (behind d at s) ss)
    ∙ ap (λ (ts : List Ta1). ts ++ ta1s_among ss) (one_ta1 at s)

-- the interchanges that are reported are the TA1s of the text
pub ta1s_are_read : (d : Delims) (text : List ℕ) → ta1s_told (told_in d text) ≡ ta1s_in d text
ta1s_are_read d text = ta1s_behind d at_begin (segments_in d text) ∙ ap ta1s_among (segments_are d text)
