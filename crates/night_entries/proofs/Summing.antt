-- Lines of sums.
use Rattle.std.proofs.Common.{◌≡◌, ℕ, ◌+◌, ◌<◌, ◌≤◌, ◌==◌, ◌||◌, Bool, true, false}
use Rattle.std.proofs.Common.{not, cond, List, [], ◌∷◌, ◌++◌, None, Some, codes, length}
use Rattle.std.proofs.Common.{suc, take, drop, sym, ap, subst, refl, ◌∙◌, append_assoc, arith}
use Rattle.std.specs.Prelude.{slice_index}
use Rattle.std.specs.List.{position, position_or_len}
use Rattle.std.specs.Str.{bytes_eq}
use Rattle.std.specs.Cmp.Lexicographic.{bytes_decides}
use Rattle.std.proofs.Math.Seq.{take-add}
use Rattle.std.proofs.lemmas.List.{take-append-drop, take_all, take_more}
use Rattle.std.proofs.lemmas.Bool.{eqb-true, ltb-false}
use Rattle.std.proofs.lemmas.List.Quantifiers.{position-Some}
use Rattle.night_entries.specs.Good.{has_byte}

pub line_is : (line sum rest spaces name : List ℕ) → sum ≡ take 64 line → rest ≡ drop 64 line → spaces ≡ take 2 rest → name ≡ drop 2 rest
    → bytes_eq spaces (codes "  ") ≡ true → sum ++ (codes "  " ++ (name ++ 10 ∷ [])) ≡ line ++ 10 ∷ []
line_is line sum rest spaces name a b c d same =
    let two : codes "  " ++ name ≡ rest =
    ap (λ (s : List ℕ). s ++ name) (sym ((bytes_decides spaces (codes "  ")).0 same) ∙ c) ∙ ap (λ (n : List ℕ). take 2 rest ++ n) d
    ∙ take-append-drop 2 rest in
    let one : sum ++ rest ≡ line =
    ap (λ (s : List ℕ). s ++ rest) a ∙ ap (λ (r : List ℕ). take 64 line ++ r) b ∙ take-append-drop 64 line in
    ap (λ (l : List ℕ). sum ++ l) (sym (append_assoc (codes "  ") name (10 ∷ [])) ∙ ap (λ (l : List ℕ). l ++ 10 ∷ []) two)
    ∙ sym (append_assoc sum rest (10 ∷ [])) ∙ ap (λ (l : List ℕ). l ++ 10 ∷ []) one

-- a text up to the end of its next line
pub line_more : (text : List ℕ) (at end : ℕ) (line : List ℕ) → line ≡ take end (drop at text) → end < length (drop at text)
    → slice_index (drop at text) end ≡ 10 → take (at + (end + 1)) text ≡ take at text ++ (line ++ 10 ∷ [])
line_more text at end line is low feed =
    take-add at (end + 1) text
    ∙ ap (λ (l : List ℕ). take at text ++ l) (take_more (drop at text) end 0 low
    ∙ ap (λ (b : ℕ). take end (drop at text) ++ b ∷ []) feed ∙ ap (λ (l : List ℕ). l ++ 10 ∷ []) (sym is))

abbrev is_feed : ℕ → Bool
is_feed byte = byte == 10

one_more : (n : ℕ) → 1 + n ≡ suc n
one_more n = omega arith

-- no line feed is before the first one
clean_until : (text : List ℕ) → has_byte 10 (take (position_or_len is_feed text) text) ≡ false
clean_until [] = refl
clean_until (x ∷ xs) = by (is_feed x) refl (clean_until xs)
  where
    by : (b : Bool) → is_feed x ≡ b → has_byte 10 (take (position_or_len is_feed xs) xs) ≡ false
        → has_byte 10 (take (cond (not b) (1 + position_or_len is_feed xs) 0) (x ∷ xs)) ≡ false
    by true is rest = refl
    by false is rest =
        ap (λ (n : ℕ). has_byte 10 (take n (x ∷ xs))) (one_more (position_or_len is_feed xs))
        ∙ ap (λ (b : Bool). b || has_byte 10 (take (position_or_len is_feed xs) xs)) is ∙ rest

some_at : (b : Bool) (n i : ℕ) → cond b (Some n) None ≡ Some i → n ≡ i
some_at true n i is = cc
some_at false n i is = cc

none_at : (b : Bool) (n : ℕ) → cond b (Some n) None ≡ None → b ≡ false
none_at true n is = cc
none_at false n is = refl

-- where a line ends, and that no line feed is before its end
pub line_found : (text : List ℕ) (end : ℕ) → position is_feed text ≡ Some end
    → (end < length text) × (slice_index text end ≡ 10) × (has_byte 10 (take end text) ≡ false)
line_found text end is =
    let at = position-Some is_feed text end 0 is in
    let first = some_at _ (position_or_len is_feed text) end is in
    (at.0, eqb-true (slice_index text end) 10 at.1, subst (λ (n : ℕ). has_byte 10 (take n text) ≡ false) first (clean_until text))

-- a text without a line feed
pub line_open : (text : List ℕ) → position is_feed text ≡ None → has_byte 10 text ≡ false
line_open text is =
    let whole : length text ≤ position_or_len is_feed text =
    ltb-false (position_or_len is_feed text) (length text) (none_at _ (position_or_len is_feed text) is) in
    subst (λ (l : List ℕ). has_byte 10 l ≡ false) (take_all (position_or_len is_feed text) text whole) (clean_until text)
