-- Where the next line of a text ends.
use Rattle.std.proofs.Common.{◌≡◌, ℕ, ◌+◌, ◌<◌, ◌≤◌, ◌==◌, ◌&&◌, Bool, true, false}
use Rattle.std.proofs.Common.{not, cond, List, [], ◌∷◌, ◌++◌, None, Some, length}
use Rattle.std.proofs.Common.{suc, take, drop, ap, subst, refl, ◌∙◌, arith}
use Rattle.std.specs.Prelude.{slice_index}
use Rattle.std.specs.List.{position, position_or_len}
use Rattle.std.proofs.Math.Seq.{take-add}
use Rattle.std.proofs.lemmas.List.{take_all, take_more}
use Rattle.std.proofs.lemmas.Bool.{eqb-true, ltb-false}
use Rattle.std.proofs.lemmas.List.Quantifiers.{position-Some}
use Rattle.night_record.specs.Lines.{is_line}

abbrev is_feed : ℕ → Bool
is_feed byte = byte == 10

-- a text up to the end of its next line
pub line_more : (text : List ℕ) (at end : ℕ) → end < length (drop at text)
    → slice_index (drop at text) end ≡ 10 → take (at + (end + 1)) text ≡ take at text ++ (take end (drop at text) ++ 10 ∷ [])
line_more text at end low feed =
    take-add at (end + 1) text
    ∙ ap (λ (l : List ℕ). take at text ++ l) (take_more (drop at text) end 0 low
    ∙ ap (λ (b : ℕ). take end (drop at text) ++ b ∷ []) feed)

one_more : (n : ℕ) → 1 + n ≡ suc n
one_more n = omega arith

-- no line feed is before the first one
clean_until : (text : List ℕ) → is_line (take (position_or_len is_feed text) text) ≡ true
clean_until [] = refl
clean_until (x ∷ xs) = by (is_feed x) refl (clean_until xs)
  where
    by : (b : Bool) → is_feed x ≡ b → is_line (take (position_or_len is_feed xs) xs) ≡ true
        → is_line (take (cond (not b) (1 + position_or_len is_feed xs) 0) (x ∷ xs)) ≡ true
    by true is rest = refl
    by false is rest =
        ap (λ (n : ℕ). is_line (take n (x ∷ xs))) (one_more (position_or_len is_feed xs))
        ∙ ap (λ (b : Bool). not b && is_line (take (position_or_len is_feed xs) xs)) is ∙ rest

some_at : (b : Bool) (n i : ℕ) → cond b (Some n) None ≡ Some i → n ≡ i
some_at true n i is = cc
some_at false n i is = cc

none_at : (b : Bool) (n : ℕ) → cond b (Some n) None ≡ None → b ≡ false
none_at true n is = cc
none_at false n is = refl

-- where a line ends, and that no line feed is before its end
pub line_found : (text : List ℕ) (end : ℕ) → position is_feed text ≡ Some end
    → (end < length text) × (slice_index text end ≡ 10) × (is_line (take end text) ≡ true)
line_found text end is =
    let at = position-Some is_feed text end 0 is in
    let first = some_at _ (position_or_len is_feed text) end is in
    (at.0, eqb-true (slice_index text end) 10 at.1, subst (λ (n : ℕ). is_line (take n text) ≡ true) first (clean_until text))

-- a text without a line feed
pub line_open : (text : List ℕ) → position is_feed text ≡ None → is_line text ≡ true
line_open text is =
    let whole : length text ≤ position_or_len is_feed text =
    ltb-false (position_or_len is_feed text) (length text) (none_at _ (position_or_len is_feed text) is) in
    subst (λ (l : List ℕ). is_line l ≡ true) (take_all (position_or_len is_feed text) text whole) (clean_until text)
