-- The CR and LF at the end of bytes, and the padding.
use Rattle.std.proofs.Common.{◌≡◌, ◌∙◌, ℕ, ◌+◌, ◌-◌, ◌<◌, ◌≤◌, List, ◌++◌, Bool, true, false, cond, nat_eq}
use Rattle.std.proofs.Common.{length, take, drop, get_or, sym, ap, arith}
use Rattle.std.specs.Prelude.{reverse}
use Rattle.std.specs.List.{prefix_len, suffix_len}
use Rattle.std.proofs.lemmas.Bool.{eqb-true, false_from_ne_true, eq-eqb}
use Rattle.std.proofs.lemmas.List.{append_assoc, get_or-drop, get_or-reverse, length-drop, length-reverse, reverse-append, take-append-drop}
use Rattle.std.proofs.lemmas.List.Folds.{prefix_len-append}
use Rattle.std.proofs.lemmas.List.Sums.{prefix_len-le-length, prefix_len_passes, prefix_len_stops}
use Rattle.x12_bytes.specs.Bytes.{is_line_end}
use Rattle.gather_files.specs.Gathering.{AreEnds, is_end}

-- each of the last so many
pub passes : (f : ℕ → Bool) (xs : List ℕ) (k d : ℕ) → length xs - suffix_len f xs ≤ k → k < length xs → f (get_or xs k d) ≡ true
passes f xs k d low high =
    let n : ℕ = length xs in
    let count : suffix_len f xs ≤ n =
    omega (arith, prefix_len-le-length f (reverse xs), length-reverse xs) in
    let there : n - 1 - k < suffix_len f xs = omega (arith, low, high, count) in
    let within : n - 1 - k < n = omega (arith, high) in
    let place : n - 1 - (n - 1 - k) ≡ k = omega (arith, high) in
    ap (λ (j : ℕ). f (get_or xs j d)) (sym place) ∙ ap f (sym (get_or-reverse xs (n - 1 - k) d within))
    ∙ prefix_len_passes f (reverse xs) (n - 1 - k) d there

-- and not the one before them
pub stops : (f : ℕ → Bool) (xs : List ℕ) (d : ℕ) → suffix_len f xs < length xs
    → f (get_or xs (length xs - 1 - suffix_len f xs) d) ≡ false
stops f xs d lt =
    ap f (sym (get_or-reverse xs (suffix_len f xs) d lt)) ∙ prefix_len_stops f (reverse xs) d (omega (arith, lt, length-reverse xs))

pub last_are_ends : (xs : List ℕ) → AreEnds (drop (length xs - suffix_len is_line_end xs) xs)
last_are_ends xs k d lt =
    let at : ℕ = length xs - suffix_len is_line_end xs in
    let size : length (drop at xs) ≡ length xs - at = length-drop at xs in
    ap is_line_end (get_or-drop at xs k d) ∙ passes is_line_end xs (at + k) d (omega arith) (omega (arith, lt, size))

-- of bytes after others
suffix_behind : (f : ℕ → Bool) (xs ys : List ℕ)
    → suffix_len f (xs ++ ys) ≡ cond (nat_eq (suffix_len f ys) (length ys)) (length ys + suffix_len f xs) (suffix_len f ys)
suffix_behind f xs ys =
    ap (λ (l : List ℕ). prefix_len f l) (reverse-append xs ys) ∙ prefix_len-append f (reverse ys) (reverse xs)
    ∙ ap (λ (n : ℕ). cond (nat_eq (suffix_len f ys) n) (n + suffix_len f xs) (suffix_len f ys)) (length-reverse ys)

pub suffix_all : (f : ℕ → Bool) (xs ys : List ℕ) → suffix_len f ys ≡ length ys → suffix_len f (xs ++ ys) ≡ length ys + suffix_len f xs
suffix_all f xs ys is =
    suffix_behind f xs ys
    ∙ ap (λ (t : Bool). cond t (length ys + suffix_len f xs) (suffix_len f ys)) (eq-eqb (suffix_len f ys) (length ys) is)

pub suffix_some : (f : ℕ → Bool) (xs ys : List ℕ) → suffix_len f ys < length ys → suffix_len f (xs ++ ys) ≡ suffix_len f ys
suffix_some f xs ys lt =
    suffix_behind f xs ys
    ∙ ap (λ (t : Bool). cond t (length ys + suffix_len f xs) (suffix_len f ys))
    (false_from_ne_true (nat_eq (suffix_len f ys) (length ys))
    (λ yes. absurd (omega (arith, lt, eqb-true (suffix_len f ys) (length ys) yes))))

-- of all bytes, where so many were looked at before
pub looked : (before held : List ℕ) (seen : ℕ) → before ++ held ≡ (before ++ take seen held) ++ drop seen held
looked before held seen =
    ap (λ (l : List ℕ). before ++ l) (sym (take-append-drop seen held)) ∙ sym (append_assoc before (take seen held) (drop seen held))

pub all_new : (before held : List ℕ) (seen ends more : ℕ) → suffix_len is_end (before ++ take seen held) ≡ ends
    → more ≡ suffix_len is_end (drop seen held) → more ≡ length held - seen → suffix_len is_end (before ++ held) ≡ ends + more
all_new before held seen ends more was is all =
    let rest : List ℕ = drop seen held in
    let size : length rest ≡ length held - seen = length-drop seen held in
    let found : suffix_len is_end (before ++ held) ≡ length rest + suffix_len is_end (before ++ take seen held) =
    ap (λ (l : List ℕ). suffix_len is_end l) (looked before held seen)
    ∙ suffix_all is_end (before ++ take seen held) rest (omega (arith, is, all, size)) in
    omega (arith, found, was, all, size)

pub some_new : (before held : List ℕ) (seen more : ℕ) → more ≡ suffix_len is_end (drop seen held) → more < length held - seen
    → suffix_len is_end (before ++ held) ≡ more
some_new before held seen more is few =
    ap (λ (l : List ℕ). suffix_len is_end l) (looked before held seen)
    ∙ suffix_some is_end (before ++ take seen held) (drop seen held) (omega (arith, is, few, length-drop seen held)) ∙ sym is
