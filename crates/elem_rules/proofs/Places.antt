-- The parts of a text round a separator, by the places at which the separator stands.
use Rattle.std.proofs.Common.{◌≡◌, ℕ, zero, suc, ◌+◌, ◌-◌, ◌<◌, ◌≤◌, ◌∙◌, List, [], ◌∷◌, Bool, true, false, cond, length, get_or, take}
use Rattle.std.proofs.Common.{drop, slice_range, refl, ap, sym, subst, arith, add-one}
use Rattle.std.specs.List.{slice_split, onto_first}
use Rattle.std.proofs.Math.Seq.{take-nil}
use Rattle.std.proofs.lemmas.List.{get_or-drop, drop-drop, drop_all, get_or_past, length-drop}
use Rattle.std.proofs.lemmas.Grind.{get_or_default_zero}
use Rattle.std.proofs.lemmas.List.Splits.{length-slice_split}
use Rattle.memchr.specs.Find.{places, places_from, is_byte}
use Rattle.memchr.proofs.lemmas.CallerLemmas.{length-places}
use Rattle.x12_segs.specs.Words.{parts}

-- the places of a list whose first item has a number
abbrev places_in : (ℕ → Bool) → ℕ → List ℕ → List ℕ
places_in p i [] = []
places_in p i (x ∷ xs) = cond (p x) (i ∷ places_in p (suc i) xs) (places_in p (suc i) xs)

-- places rise and stay below the end
low_first : (i e : ℕ) (ps : List ℕ) → ((k : ℕ) → suc i ≤ get_or ps k e) → (k : ℕ) → i ≤ get_or (i ∷ ps) k e
low_first i e ps h zero = omega arith
low_first i e ps h (suc k) = omega (arith, h k)

low : (p : ℕ → Bool) (xs : List ℕ) (i e : ℕ) → e ≡ i + length xs → (k : ℕ) → i ≤ get_or (places_in p i xs) k e
low p [] i e is k = omega (arith, is)
low p (x ∷ xs) i e is k =
    let later = low p xs (suc i) e (omega (arith, is)) in
    elim (p x) as (λ b. i ≤ get_or (cond b (i ∷ places_in p (suc i) xs) (places_in p (suc i) xs)) k e) [
      | true ↦ low_first i e (places_in p (suc i) xs) later k
      | false ↦ omega (arith, later k)
    ]

high_first : (i e : ℕ) (ps : List ℕ) → i ≤ e → ((k : ℕ) → get_or ps k e ≤ e) → (k : ℕ) → get_or (i ∷ ps) k e ≤ e
high_first i e ps le h zero = le
high_first i e ps le h (suc k) = h k

high : (p : ℕ → Bool) (xs : List ℕ) (i e : ℕ) → e ≡ i + length xs → (k : ℕ) → get_or (places_in p i xs) k e ≤ e
high p [] i e is k = omega arith
high p (x ∷ xs) i e is k =
    let later = high p xs (suc i) e (omega (arith, is)) in
    elim (p x) as (λ b. get_or (cond b (i ∷ places_in p (suc i) xs) (places_in p (suc i) xs)) k e ≤ e) [
      | true ↦ high_first i e (places_in p (suc i) xs) (omega (arith, is)) later k
      | false ↦ later k
    ]

rising_first : (i e : ℕ) (ps : List ℕ) → ((k : ℕ) → suc i ≤ get_or ps k e)
    → ((k : ℕ) → k < length ps → get_or ps k e < get_or ps (suc k) e) → (k : ℕ) → k < length (i ∷ ps)
    → get_or (i ∷ ps) k e < get_or (i ∷ ps) (suc k) e
rising_first i e ps h r zero lt = omega (arith, h 0)
rising_first i e ps h r (suc k) lt = r k (omega arith)

rising : (p : ℕ → Bool) (xs : List ℕ) (i e : ℕ) → e ≡ i + length xs → (k : ℕ) → k < length (places_in p i xs)
    → get_or (places_in p i xs) k e < get_or (places_in p i xs) (suc k) e
rising p [] i e is k lt = absurd (omega arith)
rising p (x ∷ xs) i e is k lt =
    let end : e ≡ suc i + length xs = omega (arith, is) in
    (elim (p x) as (λ b. k < length (cond b (i ∷ places_in p (suc i) xs) (places_in p (suc i) xs))
    → get_or (cond b (i ∷ places_in p (suc i) xs) (places_in p (suc i) xs)) k e
    < get_or (cond b (i ∷ places_in p (suc i) xs) (places_in p (suc i) xs)) (suc k) e) [
      | true ↦ rising_first i e (places_in p (suc i) xs) (low p xs (suc i) e end) (rising p xs (suc i) e end) k
      | false ↦ rising p xs (suc i) e end k
    ]) lt

-- an item before the first part
first_onto : (x : ℕ) (list : List (List ℕ)) → get_or (onto_first x list) 0 [] ≡ x ∷ get_or list 0 []
first_onto x [] = refl
first_onto x (part ∷ list) = refl

later_onto : (x : ℕ) (list : List (List ℕ)) (k : ℕ) → get_or (onto_first x list) (suc k) [] ≡ get_or list (suc k) []
later_onto x [] k = refl
later_onto x (part ∷ list) k = refl

-- the first part ends at the first place
first_more : (x i q : ℕ) (xs part : List ℕ) → suc i ≤ q → part ≡ take (q - suc i) xs → x ∷ part ≡ take (q - i) (x ∷ xs)
first_more x i q xs part le is =
    let n : q - i ≡ suc (q - suc i) = omega arith in
    ap (λ t. x ∷ t) is ∙ sym (ap (λ n. take n (x ∷ xs)) n)

part_first : (p : ℕ → Bool) (xs : List ℕ) (i e : ℕ) → e ≡ i + length xs
    → get_or (slice_split p xs) 0 [] ≡ take (get_or (places_in p i xs) 0 e - i) xs
part_first p [] i e is = sym (take-nil (e - i))
part_first p (x ∷ xs) i e is =
    let end : e ≡ suc i + length xs = omega (arith, is) in
    let none : i - i ≡ 0 = omega arith in
    elim (p x) as (λ b. get_or (cond b ([] ∷ slice_split p xs) (onto_first x (slice_split p xs))) 0 []
    ≡ take (get_or (cond b (i ∷ places_in p (suc i) xs) (places_in p (suc i) xs)) 0 e - i) (x ∷ xs)) [
      | true ↦ sym (ap (λ n. take n (x ∷ xs)) none)
      | false ↦ first_onto x (slice_split p xs)
          ∙ first_more x i (get_or (places_in p (suc i) xs) 0 e) xs (get_or (slice_split p xs) 0 []) (low p xs (suc i) e end 0)
          (part_first p xs (suc i) e end)
    ]

-- every other part lies between two places
range_more : (x i q r : ℕ) (xs part : List ℕ) → suc i ≤ q → suc i ≤ r → part ≡ slice_range xs (suc q - suc i) (r - suc i)
    → part ≡ slice_range (x ∷ xs) (suc q - i) (r - i)
range_more x i q r xs part low high is =
    let a : suc q - i ≡ suc (suc q - suc i) = omega arith in
    let n : (r - i) - (suc q - i) ≡ (r - suc i) - (suc q - suc i) = omega arith in
    is ∙ sym (ap (λ m. take m (drop (suc q - i) (x ∷ xs))) n ∙ ap (λ m. take ((r - suc i) - (suc q - suc i)) (drop m (x ∷ xs))) a)

range_here : (x i r : ℕ) (xs part : List ℕ) → suc i ≤ r → part ≡ take (r - suc i) xs → part ≡ slice_range (x ∷ xs) (suc i - i) (r - i)
range_here x i r xs part high is =
    let a : suc i - i ≡ 1 = omega arith in
    let n : (r - i) - (suc i - i) ≡ r - suc i = omega arith in
    is ∙ sym (ap (λ m. take m (drop (suc i - i) (x ∷ xs))) n ∙ ap (λ m. take (r - suc i) (drop m (x ∷ xs))) a)

part_later-first : (p : ℕ → Bool) (x : ℕ) (xs : List ℕ) (i e : ℕ) → e ≡ suc i + length xs
    → ((k : ℕ) → k < length (places_in p (suc i) xs) → get_or (slice_split p xs) (suc k) []
    ≡ slice_range xs (suc (get_or (places_in p (suc i) xs) k e) - suc i) (get_or (places_in p (suc i) xs) (suc k) e - suc i))
    → (k : ℕ) → k < length (i ∷ places_in p (suc i) xs) → get_or ([] ∷ slice_split p xs) (suc k) []
    ≡ slice_range (x ∷ xs) (suc (get_or (i ∷ places_in p (suc i) xs) k e) - i) (get_or (i ∷ places_in p (suc i) xs) (suc k) e - i)
part_later-first p x xs i e end later zero lt =
    range_here x i (get_or (places_in p (suc i) xs) 0 e) xs (get_or (slice_split p xs) 0 []) (low p xs (suc i) e end 0)
    (part_first p xs (suc i) e end)
part_later-first p x xs i e end later (suc k) lt =
    range_more x i (get_or (places_in p (suc i) xs) k e) (get_or (places_in p (suc i) xs) (suc k) e) xs
    (get_or (slice_split p xs) (suc k) []) (low p xs (suc i) e end k) (low p xs (suc i) e end (suc k)) (later k (omega arith))

part_later : (p : ℕ → Bool) (xs : List ℕ) (i e : ℕ) → e ≡ i + length xs → (k : ℕ) → k < length (places_in p i xs)
    → get_or (slice_split p xs) (suc k) []
    ≡ slice_range xs (suc (get_or (places_in p i xs) k e) - i) (get_or (places_in p i xs) (suc k) e - i)
part_later p [] i e is k lt = absurd (omega arith)
part_later p (x ∷ xs) i e is k lt =
    let end : e ≡ suc i + length xs = omega (arith, is) in
    (elim (p x) as (λ b. k < length (cond b (i ∷ places_in p (suc i) xs) (places_in p (suc i) xs))
    → get_or (cond b ([] ∷ slice_split p xs) (onto_first x (slice_split p xs))) (suc k) []
    ≡ slice_range (x ∷ xs) (suc (get_or (cond b (i ∷ places_in p (suc i) xs) (places_in p (suc i) xs)) k e) - i)
    (get_or (cond b (i ∷ places_in p (suc i) xs) (places_in p (suc i) xs)) (suc k) e - i)) [
      | true ↦ part_later-first p x xs i e end (part_later p xs (suc i) e end) k
      | false ↦ (λ lt. later_onto x (slice_split p xs) k
          ∙ range_more x i (get_or (places_in p (suc i) xs) k e) (get_or (places_in p (suc i) xs) (suc k) e) xs
          (get_or (slice_split p xs) (suc k) []) (low p xs (suc i) e end k) (low p xs (suc i) e end (suc k))
          (part_later p xs (suc i) e end k lt))
    ]) lt

-- the places that a search gives
places_from-in : (p : ℕ → Bool) (hay xs : List ℕ) (i : ℕ) → drop i hay ≡ xs → places_from p hay i (length xs) ≡ places_in p i xs
unfolding places_from
places_from-in p hay [] i is = refl
places_from-in p hay (x ∷ xs) i is =
    let here : i + 0 ≡ i = omega arith in
    let head : get_or hay i 0 ≡ x = sym (ap (λ j. get_or hay j 0) here) ∙ sym (get_or-drop i hay 0 0) ∙ ap (λ l. get_or l 0 0) is in
    let rest : drop (i + 1) hay ≡ xs = sym (drop-drop 1 i hay) ∙ ap (drop 1) is in
    let later : places_from p hay (i + 1) (length xs) ≡ places_in p (suc i) xs =
    places_from-in p hay xs (i + 1) rest ∙ ap (λ j. places_in p j xs) (add-one i) in
    ap (λ l. cond (p (get_or hay i 0)) (i ∷ l) l) later
    ∙ ap (λ y. cond (p y) (i ∷ places_in p (suc i) xs) (places_in p (suc i) xs)) head

places_are : (p : ℕ → Bool) (hay : List ℕ) → places p hay ≡ places_in p 0 hay
places_are p hay =
    let all : length hay - 0 ≡ length hay = omega arith in
    ap (places_from p hay 0) all ∙ places_from-in p hay hay 0 refl

-- there is one part more than places
pub length_parts : (t : ℕ) (text ps : List ℕ) → ps ≡ places (is_byte t) text → length (parts t text) ≡ length ps + 1
length_parts t text ps are =
    length-slice_split (is_byte t) text ∙ ap (λ n. n + 1) (sym (ap length are ∙ length-places (is_byte t) text))

pub parts_up_to : (t : ℕ) (text ps : List ℕ) (n : ℕ) → ps ≡ places (is_byte t) text → length ps ≤ n → drop n (drop 1 (parts t text)) ≡ []
parts_up_to t text ps n are le =
    drop_all n (drop 1 (parts t text)) (omega (arith, length-drop 1 (parts t text), length_parts t text ps are))

-- after the last place there is no part
pub part_past : (t : ℕ) (text ps : List ℕ) (k : ℕ) → ps ≡ places (is_byte t) text → length ps < k → get_or (parts t text) k [] ≡ []
part_past t text ps k are past = get_or_past (parts t text) k [] (omega (arith, length_parts t text ps are))

-- a place, and the next one or the end
module _ (t : ℕ) (text ps : List ℕ) (are : ps ≡ places (is_byte t) text) (k : ℕ) (within : k < length ps) where
  at : ps ≡ places_in (is_byte t) 0 text
  at = are ∙ places_are (is_byte t) text

  pub place_below : get_or ps k 0 + 1 ≤ get_or ps (k + 1) (length text)
  place_below =
      let up : get_or ps k (length text) < get_or ps (suc k) (length text) =
      subst (λ (ps : List ℕ). k < length ps → get_or ps k (length text) < get_or ps (suc k) (length text)) (sym at)
      (rising (is_byte t) text 0 (length text) (omega arith) k) within in
      rw (add-one k) (omega (arith, up, get_or_default_zero ps k (length text) within))

  pub place_within : get_or ps (k + 1) (length text) ≤ length text
  place_within =
      subst (λ (ps : List ℕ). get_or ps (k + 1) (length text) ≤ length text) (sym at)
      (high (is_byte t) text 0 (length text) (omega arith) (k + 1))

  pub part_between : get_or (parts t text) (k + 1) [] ≡ slice_range text (get_or ps k 0 + 1) (get_or ps (k + 1) (length text))
  part_between =
      let e = length text in
      let part : get_or (parts t text) (suc k) [] ≡ slice_range text (suc (get_or ps k e) - 0) (get_or ps (suc k) e - 0) =
      subst (λ (ps : List ℕ). k < length ps → get_or (parts t text) (suc k) []
      ≡ slice_range text (suc (get_or ps k e) - 0) (get_or ps (suc k) e - 0)) (sym at)
      (part_later (is_byte t) text 0 e (omega arith) k) within in
      let from : suc (get_or ps k e) - 0 ≡ get_or ps k 0 + 1 = omega (arith, get_or_default_zero ps k e within) in
      let to : get_or ps (suc k) e - 0 ≡ get_or ps (suc k) e = omega arith in
      rw (add-one k) (part ∙ ap (λ a. slice_range text a (get_or ps (suc k) e - 0)) from
      ∙ ap (λ b. slice_range text (get_or ps k 0 + 1) b) to)
