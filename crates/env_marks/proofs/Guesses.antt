-- The headers of a text in two: those that begin at or before an offset, and the others.
use Rattle.std.proofs.Common.{◌≡◌, ℕ, ◌+◌, ◌-◌, ◌≤◌, ◌<◌, List, [], ◌∷◌, ◌++◌, length, get_or, Option, Some, None, Bool, true}
use Rattle.std.proofs.Common.{false, zero, suc, arith, sym, ap, refl, subst, ◌∙◌, inl, inr, append-nil, cond}
use Rattle.std.specs.Option.{option_or}
use Rattle.std.proofs.lemmas.Bool.{cases_lt, false_from_ne_true, lt-ltb, le-ltb}
use Rattle.std.proofs.lemmas.List.{length-append}
use Rattle.x12_bytes.specs.HeaderTest.{is_head}
use Rattle.x12_bytes.specs.declared.pair.Pair.{Pair}
use Rattle.x12_bytes.specs.declared.piece.Piece.{Piece}
use Rattle.isa_scan.specs.Heads.{heads_in, head_at}
use Rattle.isa_scan.specs.declared.heads.HeadAt.{HeadAt}
use Rattle.isa_scan.proofs.ForAbove.{heads_both, head_one, head_none, no_heads, head_within, heads_none}
use Rattle.env_marks.specs.Guess.{AreDivided, last_pair, first_pair, guess_in, no_head_at, pair_before}

-- the headers of a stretch begin in it
heads_range_by : (v : Bool) (text : List ℕ) (a b : ℕ) → a < b → is_head text a ≡ v
    → ((j : ℕ) → j < length (heads_in text (a + 1) b)
    → (a + 1 ≤ (get_or (heads_in text (a + 1) b) j no_head_at).start) × ((get_or (heads_in text (a + 1) b) j no_head_at).start < b))
    → (j : ℕ) → j < length (heads_in text a b)
    → (a ≤ (get_or (heads_in text a b) j no_head_at).start) × ((get_or (heads_in text a b) j no_head_at).start < b)
heads_range_by true text a b h is later =
    let whole : heads_in text a b ≡ head_at text a ∷ heads_in text (a + 1) b = heads_both text a (a + 1) b (omega arith) (omega arith)
    ∙ ap (λ (l : List HeadAt). l ++ heads_in text (a + 1) b) (head_one text a is) in
    subst (λ (l : List HeadAt). (j : ℕ) → j < length l → (a ≤ (get_or l j no_head_at).start) × ((get_or l j no_head_at).start < b))
    (sym whole)
    (λ j. elim j as (λ (i : ℕ). i < length (head_at text a ∷ heads_in text (a + 1) b)
    → (a ≤ (get_or (head_at text a ∷ heads_in text (a + 1) b) i no_head_at).start)
    × ((get_or (head_at text a ∷ heads_in text (a + 1) b) i no_head_at).start < b)) [
      | zero ↦ λ lt. (omega arith, h)
      | suc i ↦ λ lt. let l = later i (omega (arith, lt)) in (omega (arith, l.0), l.1)
    ])
heads_range_by false text a b h is later =
    let whole : heads_in text a b ≡ heads_in text (a + 1) b = heads_both text a (a + 1) b (omega arith) (omega arith)
    ∙ ap (λ (l : List HeadAt). l ++ heads_in text (a + 1) b) (head_none text a is) in
    subst (λ (l : List HeadAt). (j : ℕ) → j < length l → (a ≤ (get_or l j no_head_at).start) × ((get_or l j no_head_at).start < b))
    (sym whole)
    (λ j lt. let l = later j lt in (omega (arith, l.0), l.1))

abbrev AreWithin : List ℕ → ℕ → ℕ → Type 0
AreWithin text a b = (j : ℕ) → j < length (heads_in text a b)
    → (a ≤ (get_or (heads_in text a b) j no_head_at).start) × ((get_or (heads_in text a b) j no_head_at).start < b)

range_none : (text : List ℕ) (a b : ℕ) → b ≤ a → a ≤ b → AreWithin text a b
range_none text a b ge le j lt =
    let none : heads_in text a b ≡ [] = ap (heads_in text a) (let e : b ≡ a = omega (arith, ge, le) in e) ∙ no_heads text a in
    absurd (let long = ap (λ (l : List HeadAt). length l) none in omega (arith, lt, long))

range_rest : (text : List ℕ) (a b : ℕ) → a ≤ b → (a < b → AreWithin text a b) → AreWithin text a b
range_rest text a b le more = elim (cases_lt a b) [
  | inl w ↦ more w
  | inr w ↦ range_none text a b w le
]

range_in : (fuel : ℕ) (text : List ℕ) (a b : ℕ) → b - a ≤ fuel → a < b → AreWithin text a b
range_in zero text a b measure less = absurd (omega (arith, measure, less))
range_in (suc fuel) text a b measure less =
    heads_range_by (is_head text a) text a b less refl
    (range_rest text (a + 1) b (omega (arith, less)) (λ w. range_in fuel text (a + 1) b (omega (arith, measure, less)) w))

heads_range : (fuel : ℕ) (text : List ℕ) (a b : ℕ) → b - a ≤ fuel → a ≤ b → AreWithin text a b
heads_range fuel text a b measure le = range_rest text a b le (λ w. range_in fuel text a b measure w)

get_or-left : (xs ys : List HeadAt) (j : ℕ) (d : HeadAt) → j < length xs → get_or (xs ++ ys) j d ≡ get_or xs j d
get_or-left [] ys j d lt = absurd (omega (arith, lt))
get_or-left (x ∷ xs) ys zero d lt = refl
get_or-left (x ∷ xs) ys (suc j) d lt = get_or-left xs ys j d (omega (arith, lt))

get_or-right : (xs ys : List HeadAt) (j : ℕ) (d : HeadAt) → length xs ≤ j → get_or (xs ++ ys) j d ≡ get_or ys (j - length xs) d
get_or-right [] ys j d le = ap (λ k. get_or ys k d) (let e : j ≡ j - 0 = omega arith in e)
get_or-right (x ∷ xs) ys zero d le = absurd (omega (arith, le))
get_or-right (x ∷ xs) ys (suc j) d le =
    get_or-right xs ys j d (omega (arith, le))
    ∙ ap (λ k. get_or ys k d) (let e : j - length xs ≡ suc j - suc (length xs) = omega arith in e)

last_is : (list : List HeadAt) → 0 < length list → last_pair list ≡ Some (get_or list (length list - 1) no_head_at).pair
last_is [] some = absurd (omega (arith, some))
last_is (h ∷ []) some = refl
last_is (h ∷ k ∷ more) some =
    last_is (k ∷ more) (omega arith)
    ∙ ap (λ i. Some (get_or (h ∷ k ∷ more) i no_head_at).pair)
    (let e : suc (suc (length more) - 1) ≡ suc (suc (length more)) - 1 = omega arith in e)

-- the headers of a text, up to an offset and after it
pub record IsParted (text : List ℕ) (at : ℕ) (list : List HeadAt) : Type 0 where
  pub whole : list ≡ heads_in text 0 (at + 1) ++ heads_in text (at + 1) (length text + 1)
  pub divided : AreDivided (length (heads_in text 0 (at + 1))) at list

pub parted : (text : List ℕ) (at : ℕ) → at ≤ length text → IsParted text at (heads_in text 0 (length text))
parted text at le =
    let n : ℕ = length text in
    let front : List HeadAt = heads_in text 0 (at + 1) in
    let back : List HeadAt = heads_in text (at + 1) (n + 1) in
    let past : heads_in text n (n + 1) ≡ [] = heads_none text n (n + 1) (omega arith)
    (λ q low high. false_from_ne_true (is_head text q) (λ is. absurd (omega (arith, head_within text q is, low)))) in
    let whole : heads_in text 0 n ≡ front ++ back = sym (append-nil (heads_in text 0 n))
    ∙ ap (λ (l : List HeadAt). heads_in text 0 n ++ l) (sym past)
    ∙ sym (heads_both text 0 n (n + 1) (omega arith) (omega arith))
    ∙ heads_both text 0 (at + 1) (n + 1) (omega arith) (omega (arith, le)) in
    let sum = length-append front back in
    record {
      whole = whole;
      divided = subst (AreDivided (length front) at) (sym whole) (record {
        within = omega (arith, sum);
        before = λ j lt. subst (λ (h : HeadAt). h.start ≤ at) (sym (get_or-left front back j no_head_at lt))
            (let r = heads_range (at + 1) text 0 (at + 1) (omega arith) (omega arith) j lt in omega (arith, r.1));
        behind = λ j ge lt. subst (λ (h : HeadAt). at < h.start) (sym (get_or-right front back j no_head_at ge))
            (let r = heads_range (n + 1) text (at + 1) (n + 1) (omega arith) (omega (arith, le)) (j - length front)
            (omega (arith, sum, ge, lt)) in omega (arith, r.0));
      });
    }

pair_of_both : (cs ds : List HeadAt) (to : ℕ) → ((j : ℕ) → j < length cs → (get_or cs j no_head_at).start < to)
    → ((j : ℕ) → j < length ds → to ≤ (get_or ds j no_head_at).start) → pair_before (cs ++ ds) to ≡ first_pair cs
pair_of_both [] [] to below above = refl
pair_of_both [] (d ∷ ds) to below above =
    ap (λ b. cond b (Some d.pair) None) (le-ltb d.start to (above 0 (omega arith)))
pair_of_both (c ∷ cs) ds to below above = ap (λ b. cond b (Some c.pair) None) (lt-ltb c.start to (below 0 (omega arith)))

pub guessed_before : (text : List ℕ) (piece : Piece) (list : List HeadAt) (count : ℕ) → list ≡ heads_in text 0 (length text)
    → piece.from ≤ length text
    → ((k : ℕ) → AreDivided k piece.from list → count ≡ k) → 0 < count
    → Some (get_or list (count - 1) no_head_at).pair ≡ guess_in text piece
guessed_before text piece list count all le counted some =
    let p : IsParted text piece.from list = subst (IsParted text piece.from) (sym all) (parted text piece.from le) in
    let front : List HeadAt = heads_in text 0 (piece.from + 1) in
    let back : List HeadAt = heads_in text (piece.from + 1) (length text + 1) in
    let is : count ≡ length front = counted (length front) p.divided in
    let last : last_pair front ≡ Some (get_or front (length front - 1) no_head_at).pair = last_is front (omega (arith, is, some)) in
    ap (λ k. Some (get_or list (k - 1) no_head_at).pair) is
    ∙ ap (λ (l : List HeadAt). Some (get_or l (length front - 1) no_head_at).pair) p.whole
    ∙ ap (λ (h : HeadAt). Some h.pair) (get_or-left front back (length front - 1) no_head_at (omega (arith, is, some)))
    ∙ ap (λ (o : Option Pair). option_or o (first_pair (heads_in text piece.from piece.to))) (sym last)

none_of_length : (list : List HeadAt) → length list ≡ 0 → list ≡ []
none_of_length [] e = refl
none_of_length (h ∷ list) e = absurd (omega (arith, e))

no_right : (xs ys : List HeadAt) → xs ++ ys ≡ [] → ys ≡ []
no_right [] ys e = e
no_right (x ∷ xs) ys e = cc

pub guessed_in : (text : List ℕ) (piece : Piece) (list : List HeadAt) (count : ℕ) → list ≡ heads_in text 0 (length text)
    → piece.from ≤ piece.to
    → piece.to ≤ length text → ((k : ℕ) → AreDivided k piece.from list → count ≡ k) → count ≡ 0
    → pair_before list piece.to ≡ guess_in text piece
guessed_in text piece list count all order le counted none =
    let from : ℕ = piece.from in
    let to : ℕ = piece.to in
    let n : ℕ = length text in
    let p : IsParted text from list = subst (IsParted text from) (sym all) (parted text from (omega (arith, order, le))) in
    let front : List HeadAt = heads_in text 0 (from + 1) in
    let is : count ≡ length front = counted (length front) p.divided in
    let empty : front ≡ [] = none_of_length front (omega (arith, is, none)) in
    let list_is : list ≡ heads_in text (from + 1) (n + 1) = p.whole
    ∙ ap (λ (l : List HeadAt). l ++ heads_in text (from + 1) (n + 1)) empty in
    let here : heads_in text from (from + 1) ≡ [] = no_right (heads_in text 0 from) (heads_in text from (from + 1))
    (sym (heads_both text 0 from (from + 1) (omega arith) (omega arith)) ∙ empty) in
    let whole : heads_in text from (n + 1) ≡ list = heads_both text from (from + 1) (n + 1) (omega arith) (omega (arith, order, le))
    ∙ ap (λ (l : List HeadAt). l ++ heads_in text (from + 1) (n + 1)) here ∙ sym list_is in
    let both : list ≡ heads_in text from to ++ heads_in text to (n + 1) = sym whole
    ∙ heads_both text from to (n + 1) order (omega (arith, le)) in
    ap (λ (l : List HeadAt). pair_before l to) both
    ∙ pair_of_both (heads_in text from to) (heads_in text to (n + 1)) to
    (λ j lt. let r = heads_range (to - from) text from to (omega arith) order j lt in r.1)
    (λ j lt. let r = heads_range (n + 1) text to (n + 1) (omega arith) (omega (arith, le)) j lt in r.0)
    ∙ ap (λ (l : List HeadAt). option_or (last_pair l) (first_pair (heads_in text from to))) (sym empty)
