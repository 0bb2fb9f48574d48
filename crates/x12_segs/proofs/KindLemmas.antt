-- A segment that doesn't begin with a control letter is no control segment.
use Rattle.std.proofs.Common.{ℕ, ◌≡◌, Bool, true, false, ◌||◌, ◌&&◌, cond, List, [], ◌∷◌, get_or, refl, nat_eq}
use Rattle.std.specs.List.{slice_split, onto_first}
use Rattle.x12_segs.specs.Kinds.{kind_by_id, kind_of}
use Rattle.x12_segs.specs.Letters.{is_control_letter, begins_as_control}
use Rattle.x12_segs.specs.View.{SegValue}
use Rattle.x12_segs.specs.declared.kind.Kind.TheVariants.{InterchangeTrailer, GroupHeader, GroupTrailer, SetHeader, SetTrailer, Ta1}
use Rattle.x12_segs.specs.declared.kind.Kind.TheVariants.{Other}

no_letter : (i g s t a b c d e f : Bool) → (i || g || s || t) ≡ false
    → cond (i && a) InterchangeTrailer (cond (g && b) GroupHeader (cond (g && c) GroupTrailer (cond (s && d) SetHeader
    (cond (s && e) SetTrailer (cond (t && f) Ta1 Other))))) ≡ Other
no_letter false false false false a b c d e f none = refl
no_letter true g s t a b c d e f none = cc
no_letter false true s t a b c d e f none = cc
no_letter false false true t a b c d e f none = cc
no_letter false false false true a b c d e f none = cc

other_id : (x : ℕ) (rest : List ℕ) → is_control_letter x ≡ false → kind_by_id (x ∷ rest) ≡ Other
other_id x rest none = no_letter (nat_eq x 73) (nat_eq x 71) (nat_eq x 83) (nat_eq x 84) _ _ _ _ _ _ none

first_part : (b : Bool) (x : ℕ) (list : List (List ℕ)) → is_control_letter x ≡ false
    → kind_by_id (get_or (cond b ([] ∷ list) (onto_first x list)) 0 []) ≡ Other
first_part true x list none = refl
first_part false x [] none = other_id x [] none
first_part false x (part ∷ list) none = other_id x part none

other_by_letter : (separator : ℕ) (bytes : List ℕ) → begins_as_control bytes ≡ false
    → kind_by_id (get_or (slice_split (λ b. nat_eq b separator) bytes) 0 []) ≡ Other
other_by_letter separator [] none = refl
other_by_letter separator (x ∷ xs) none =
    first_part (nat_eq x separator) x (slice_split (λ b. nat_eq b separator) xs) none

pub other_segment : (seg : SegValue) → begins_as_control seg.bytes ≡ false → kind_of seg ≡ Other
unfolding kind_of
other_segment seg none = other_by_letter seg.delims.element seg.bytes none
