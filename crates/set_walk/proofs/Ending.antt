-- SE in a set: it stands after all other segments, and there where the set is closed.
use Rattle.std.proofs.Common.{◌≡◌, Bool, true, false, true≢false, List, [], ◌∷◌, ◌++◌, map, Option, Some, None, refl, sym, ap, ◌∙◌}
use Rattle.std.proofs.Common.{if◌then◌else◌}
use Rattle.std.specs.Prelude.{is_some}
use Rattle.std.specs.List.{find, list_all}
use Rattle.std.specs.Option.{option_or}
use Rattle.std.proofs.lemmas.Bool.{and_parts}
use Rattle.std.proofs.lemmas.List.Folds.{find-append}
use Rattle.x12_segs.specs.Kinds.{may_stand_in_set}
use Rattle.x12_segs.specs.Words.{SegValue, kind_of, trailer_kinds}
use Rattle.x12_segs.specs.declared.kind.Kind.{Kind}
use Rattle.x12_segs.specs.declared.kind.Kind.TheVariants.{InterchangeTrailer, GroupHeader, GroupTrailer, SetHeader, SetTrailer}
use Rattle.x12_segs.specs.declared.kind.Kind.TheVariants.{Ta1, Other}
use Rattle.set_walk.specs.Walked.{is_end, is_trailer}

-- one segment more
pub no_end : (seg : SegValue) (done : List SegValue) → find is_trailer done ≡ None → is_trailer seg ≡ false
    → find is_trailer (done ++ seg ∷ []) ≡ None
no_end seg done none e =
    find-append is_trailer done (seg ∷ [])
    ∙ ap (λ (o : Option SegValue). option_or o (find is_trailer (seg ∷ []))) none
    ∙ ap (λ (b : Bool). option_or None (if b then Some seg else None)) e

pub an_end : (seg : SegValue) (done : List SegValue) → find is_trailer done ≡ None → is_trailer seg ≡ true
    → find is_trailer (done ++ seg ∷ []) ≡ Some seg
an_end seg done none e =
    find-append is_trailer done (seg ∷ [])
    ∙ ap (λ (o : Option SegValue). option_or o (find is_trailer (seg ∷ []))) none
    ∙ ap (λ (b : Bool). option_or None (if b then Some seg else None)) e

inner_is_none : (k : Kind) → may_stand_in_set k ≡ true → is_end k ≡ false
inner_is_none Ta1 h = refl
inner_is_none Other h = refl
inner_is_none SetTrailer h = absurd (true≢false (sym h))
inner_is_none SetHeader h = refl
inner_is_none GroupTrailer h = refl
inner_is_none GroupHeader h = refl
inner_is_none InterchangeTrailer h = refl

passed : (x : SegValue) (xs : List SegValue) (k : Kind) → kind_of x ≡ k → may_stand_in_set k ≡ true
    → find is_trailer (x ∷ xs) ≡ find is_trailer xs
passed x xs k e h =
    ap (λ (b : Bool). if b then Some x else find is_trailer xs) (ap is_end e ∙ inner_is_none k h)

-- none stands before another segment
pub none_before : (xs : List SegValue) (y : SegValue) (ys : List SegValue) (inner : List Kind) (closed : Bool)
    → map kind_of (xs ++ y ∷ ys) ≡ inner ++ trailer_kinds closed → list_all may_stand_in_set inner ≡ true → find is_trailer xs ≡ None
none_before [] y ys inner closed e h = refl
none_before (x ∷ []) y ys [] true e h = cc
none_before (x ∷ []) y ys [] false e h = cc
none_before (x ∷ z ∷ xs) y ys [] true e h = cc
none_before (x ∷ z ∷ xs) y ys [] false e h = cc
none_before (x ∷ xs) y ys (k ∷ inner) closed e h =
    let own : kind_of x ≡ k = cc in
    let rest : map kind_of (xs ++ y ∷ ys) ≡ inner ++ trailer_kinds closed = cc in
    let parts = and_parts (may_stand_in_set k) (list_all may_stand_in_set inner) h in
    passed x xs k own parts.0 ∙ none_before xs y ys inner closed rest parts.1

-- there is one where the set is closed
pub end_where_closed : (xs : List SegValue) (inner : List Kind) (closed : Bool) → map kind_of xs ≡ inner ++ trailer_kinds closed
    → list_all may_stand_in_set inner ≡ true → is_some (find is_trailer xs) ≡ closed
end_where_closed [] [] true e h = cc
end_where_closed [] [] false e h = refl
end_where_closed [] (k ∷ inner) closed e h = cc
end_where_closed (x ∷ xs) [] false e h = cc
end_where_closed (x ∷ xs) [] true e h =
    let own : kind_of x ≡ SetTrailer = cc in
    ap (λ (b : Bool). is_some (if b then Some x else find is_trailer xs)) (ap is_end own)
end_where_closed (x ∷ xs) (k ∷ inner) closed e h =
    let own : kind_of x ≡ k = cc in
    let rest : map kind_of xs ≡ inner ++ trailer_kinds closed = cc in
    let parts = and_parts (may_stand_in_set k) (list_all may_stand_in_set inner) h in
    ap (λ (o : Option SegValue). is_some o) (passed x xs k own parts.0) ∙ end_where_closed xs inner closed rest parts.1
