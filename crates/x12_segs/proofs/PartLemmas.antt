-- A search for a separator, and the parts round it.
use Rattle.std.proofs.Common.{ℕ, ◌≡◌, ◌≤◌, ◌<◌, ◌+◌, Bool, List, [], ◌∷◌, Option, Some, None, MatchOption, option_map, unwrap_or, Bor}
use Rattle.std.proofs.Common.{true, false, cond, zero, suc, length, take, drop, get_or, ap, ◌∙◌, subst, arith, nat_eq}
use Rattle.std.specs.List.{slice_split, slice_get, onto_first, position_or_len}
use Rattle.std.proofs.lemmas.Bool.{false_from_ne_true}
use Rattle.std.proofs.lemmas.List.Sums.{position_or_len_is, fails_before_first, count_by-le-length}
use Rattle.std.proofs.lemmas.List.Splits.{slice_split_first, slice_split_none, length-slice_split}
use Rattle.std.proofs.lemmas.Option.{unwrap_or-slice_get}
use Rattle.memchr.specs.Find.{IsFirstByte, is_byte}
use Rattle.x12_segs.specs.Parts.{parts, parts_by}

-- the first separator ends the first part
pub parts-found : (t : ℕ) (text : List ℕ) (k : ℕ) → IsFirstByte (is_byte t) text (Some k)
    → parts t text ≡ take k text ∷ parts t (drop (k + 1) text)
parts-found t text k h =
    let p : ℕ → Bool = λ b. nat_eq b t in
    let below : k < length text = h.0.high in
    let at : position_or_len p text ≡ k =
    position_or_len_is p text k 0 (omega arith)
    (λ j lt. false_from_ne_true (nat_eq (get_or text j 0) t) (h.0.before j (omega arith) lt))
    (λ _. h.1) in
    subst (λ (n : ℕ). slice_split p text ≡ take n text ∷ slice_split p (drop (n + 1) text)) at
    (slice_split_first p text 0 (let lt : position_or_len p text < length text = omega arith in lt))

-- without a separator the text is its one part
pub parts-none : (t : ℕ) (text : List ℕ) → IsFirstByte (is_byte t) text None → parts t text ≡ text ∷ []
parts-none t text h =
    let p : ℕ → Bool = λ b. nat_eq b t in
    let all : position_or_len p text ≡ length text =
    position_or_len_is p text (length text) 0 (omega arith)
    (λ j lt. false_from_ne_true (nat_eq (get_or text j 0) t) (h j (omega arith) lt))
    (λ lt. absurd (omega (arith, lt))) in
    slice_split_none p text (λ k d high. fails_before_first p text k d (omega arith))

-- the same in one: where the first part ends, if a separator stands after it
pub parts_by-first : (separator : Option ℕ) (s : ℕ) (text : List ℕ) (r : Option ℕ) → separator ≡ Some s → IsFirstByte (is_byte s) text r
    → MatchOption r (parts_by separator text
    ≡ text ∷ []) (λ end. (end < length text) × (parts_by separator text ≡ take end text ∷ parts_by separator (drop (end + 1) text)))
parts_by-first separator s text None is h = rw is (parts-none s text h)
parts_by-first separator s text (Some end) is h = rw is (h.0.high, parts-found s text end h)

-- there is at most one part more than there are bytes
pub length-parts_by : (separator : Option ℕ) (text : List ℕ) → length (parts_by separator text) ≤ length text + 1
length-parts_by None text = omega arith
length-parts_by (Some s) text =
    let p : ℕ → Bool = λ b. nat_eq b s in
    omega (arith, length-slice_split p text, count_by-le-length p text)

-- a lent part, or the empty text
pub now_or_empty : (r : Option (Bor (List ℕ))) (d : Bor (List ℕ)) (list : List (List ℕ)) (n : ℕ) → d.now ≡ []
    → option_map (λ x. x.now) r ≡ slice_get list n → (unwrap_or r d).now ≡ get_or list n []
now_or_empty None d list n empty h =
    let e = ap (λ o. unwrap_or o []) h in
    empty ∙ e ∙ unwrap_or-slice_get list n []
now_or_empty (Some x) d list n empty h =
    let e = ap (λ o. unwrap_or o []) h in
    e ∙ unwrap_or-slice_get list n []

-- no part is longer than the whole
part_fits-cons : (x : ℕ) (xs : List ℕ) (list : List (List ℕ)) → ((n : ℕ) → length (get_or list n []) ≤ length xs) → (n : ℕ)
    → length (get_or (onto_first x list) n []) ≤ length (x ∷ xs)
part_fits-cons x xs [] fits zero = omega arith
part_fits-cons x xs [] fits (suc n) = omega arith
part_fits-cons x xs (part ∷ list) fits zero = omega (arith, fits 0)
part_fits-cons x xs (part ∷ list) fits (suc n) = omega (arith, fits (suc n))

part_fits-first : (x : ℕ) (xs : List ℕ) (list : List (List ℕ)) → ((n : ℕ) → length (get_or list n []) ≤ length xs) → (n : ℕ)
    → length (get_or ([] ∷ list) n []) ≤ length (x ∷ xs)
part_fits-first x xs list fits zero = omega arith
part_fits-first x xs list fits (suc n) = omega (arith, fits n)

part_fits-split : (p : ℕ → Bool) (xs : List ℕ) (n : ℕ) → length (get_or (slice_split p xs) n []) ≤ length xs
part_fits-split p [] zero = omega arith
part_fits-split p [] (suc n) = omega arith
part_fits-split p (x ∷ xs) n =
    elim (p x) as (λ b. length (get_or (cond b ([] ∷ slice_split p xs) (onto_first x (slice_split p xs))) n []) ≤ length (x ∷ xs)) [
      | true ↦ part_fits-first x xs (slice_split p xs) (part_fits-split p xs) n
      | false ↦ part_fits-cons x xs (slice_split p xs) (part_fits-split p xs) n
    ]

-- part n of a text, or the empty text, is no longer than the text
pub length-part : (separator : Option ℕ) (text : List ℕ) (n : ℕ) → length (get_or (parts_by separator text) n []) ≤ length text
length-part None text zero = omega arith
length-part None text (suc n) = omega arith
length-part (Some s) text n = part_fits-split (λ b. nat_eq b s) text n
