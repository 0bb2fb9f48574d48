-- The parts round separators, one after another.
use Rattle.std.proofs.Common.{◌≡◌, ℕ, ◌+◌, ◌<◌, List, [], ◌∷◌, ◌++◌, length, take, drop, refl, sym, ap, ◌∙◌, arith}
use Rattle.std.proofs.Common.{append_assoc, Bool, true, false, cond, not}
use Rattle.std.specs.List.{slice_split, position_or_len, onto_first}
use Rattle.std.proofs.lemmas.List.{drop-drop}
use Rattle.std.proofs.lemmas.List.Splits.{slice_split_first}

-- one part more
pub cut_step : {X : Type 0} (p : X → Bool) (done : List (List X)) (rest : List X) (all : List (List X)) (end : ℕ)
    (d : X) → end ≡ position_or_len p rest → end < length rest
    → done ++ slice_split p rest ≡ all → (done ++ take end rest ∷ []) ++ slice_split p (drop (end + 1) rest) ≡ all
cut_step p done rest all end d e h a =
    let s = slice_split_first p rest d (omega arith) in
    append_assoc done (take end rest ∷ []) (slice_split p (drop (end + 1) rest))
    ∙ ap (λ (n : ℕ). done ++ take n rest ∷ slice_split p (drop (n + 1) rest)) e
    ∙ ap (λ (x : List _). done ++ x) (sym s) ∙ a

last_here : {X : Type 0} (b : Bool) (x : X) (xs : List X) (parts : List (List X)) (n : ℕ)
    → cond (not b) (1 + n) 0 ≡ length (x ∷ xs) → (n ≡ length xs → parts ≡ xs ∷ [])
    → cond b ([] ∷ parts) (onto_first x parts) ≡ (x ∷ xs) ∷ []
last_here true x xs parts n e f = absurd (omega arith)
last_here false x xs parts n e f = ap (onto_first x) (f (omega arith))

-- where no separator is left, all is the last part
pub last_part : {X : Type 0} (p : X → Bool) (xs : List X) → position_or_len p xs ≡ length xs
    → slice_split p xs ≡ xs ∷ []
last_part p [] e = refl
last_part p (x ∷ xs) e = last_here (p x) x xs (slice_split p xs) (position_or_len p xs) e (last_part p xs)

pub cut_end : {X : Type 0} (p : X → Bool) (done : List (List X)) (rest : List X) (all : List (List X))
    → position_or_len p rest ≡ length rest → done ++ slice_split p rest ≡ all → done ++ rest ∷ [] ≡ all
cut_end p done rest all e a = ap (λ (x : List _). done ++ x) (sym (last_part p rest e)) ∙ a

-- the last part of a text that is gone through from a place on
pub end_of : {X : Type 0} (p : X → Bool) (done : List (List X)) (text : List X) (all : List (List X)) (from end : ℕ)
    (rest new : List X) → rest ≡ drop from text
    → end ≡ position_or_len p rest → end ≡ length rest → new ≡ rest → done ++ slice_split p (drop from text) ≡ all
    → done ++ new ∷ [] ≡ all
end_of p done text all from end rest new r e l n a =
    ap (λ (x : List _). done ++ x ∷ []) (n ∙ r)
    ∙ cut_end p done (drop from text) all (ap (position_or_len p) (sym r) ∙ sym e ∙ l ∙ ap length r) a

-- and one part more
pub go_on : {X : Type 0} (p : X → Bool) (done : List (List X)) (text : List X) (all : List (List X)) (from end : ℕ)
    (rest new : List X) (d : X) → rest ≡ drop from text
    → end ≡ position_or_len p rest → end < length rest → new ≡ take end rest
    → done ++ slice_split p (drop from text) ≡ all
    → (done ++ new ∷ []) ++ slice_split p (drop (from + (end + 1)) text) ≡ all
go_on p done text all from end rest new d r e l n a =
    ap (λ (x : List _). (done ++ x ∷ []) ++ slice_split p (drop (from + (end + 1)) text)) (n ∙ ap (take end) r)
    ∙ ap (λ (x : List _). (done ++ take end (drop from text) ∷ []) ++ slice_split p x)
    (sym (drop-drop (end + 1) from text))
    ∙ cut_step p done (drop from text) all end d (e ∙ ap (position_or_len p) r) (let f = ap length r in omega arith) a
