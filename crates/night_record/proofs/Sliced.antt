-- The first lines of a list, and those after them.
use Rattle.std.proofs.Common.{◌≡◌, ◌∙◌, ℕ, ◌+◌, ◌-◌, ◌<◌, ◌≤◌, zero, suc, true, List, [], ◌∷◌, ◌++◌}
use Rattle.std.proofs.Common.{ap, ap₂, arith, drop, get_or, length, map, refl, subst, sym, take}
use Rattle.std.specs.Borrow.{Bor}
use Rattle.std.specs.List.{list_all}
use Rattle.std.proofs.lemmas.Bool.{and_parts}
use Rattle.std.proofs.lemmas.List.{take_all}
use Rattle.csv_fields.specs.Csv.{read}
use Rattle.night_record.specs.Reading.{is_filled, line}
use Rattle.night_record.specs.Record.{file_line}
use Rattle.night_record.specs.declared.record.SummedFile.{SummedFile}

abbrev pub none : Bor (List ℕ)
none = record { ref_ptr = (0, 0); now = [] }

pub no_bytes : (text : List ℕ) → length text ≡ 0 → text ≡ []
no_bytes [] is = refl
no_bytes (b ∷ text) is = absurd (omega (arith, is))

-- a line and those after it
pub one_first : (lines : List (Bor (List ℕ))) (x : List ℕ) → 1 ≤ length lines → (get_or lines 0 none).now ≡ x
    → read lines ≡ x ∷ read (take (length lines - 1) (drop 1 lines))
one_first [] x some is = absurd (omega (arith, some))
one_first (l ∷ ls) x some is =
    ap₂ (λ (y : List ℕ) (r : List (List ℕ)). y ∷ r) is
    (ap (λ (r : List (Bor (List ℕ))). read r) (sym (take_all (length (l ∷ ls) - 1) ls (omega arith))))

pub two_first : (lines : List (Bor (List ℕ))) (x y : List ℕ) → 2 ≤ length lines → (get_or lines 0 none).now ≡ x
    → (get_or lines 1 none).now ≡ y → read lines ≡ x ∷ y ∷ read (take (length lines - 2) (drop 2 lines))
two_first [] x y some is then = absurd (omega (arith, some))
two_first (l ∷ []) x y some is then = absurd (omega (arith, some))
two_first (l ∷ m ∷ ls) x y some is then =
    ap₂ (λ (a : List ℕ) (r : List (List ℕ)). a ∷ r) is
    (ap₂ (λ (a : List ℕ) (r : List (List ℕ)). a ∷ r) then
    (ap (λ (r : List (Bor (List ℕ))). read r) (sym (take_all (length (l ∷ m ∷ ls) - 2) ls (omega arith)))))

-- line i of lent lines
pub line_at : (lines : List (Bor (List ℕ))) (i : ℕ) → line (read lines) i ≡ (get_or lines i none).now
line_at [] i = refl
line_at (l ∷ ls) zero = refl
line_at (l ∷ ls) (suc i) = line_at ls i

-- an empty line, with those before it and after it
pub split_at_blank : (lines : List (List ℕ)) (i : ℕ) → i < length lines → line lines i ≡ []
    → lines ≡ take i lines ++ [] ∷ drop (i + 1) lines
split_at_blank [] i low is = absurd (omega (arith, low))
split_at_blank (l ∷ ls) zero low is = ap (λ (x : List ℕ). x ∷ ls) is
split_at_blank (l ∷ ls) (suc i) low is =
    let next : suc i + 1 ≡ suc (i + 1) = omega arith in
    ap (λ (r : List (List ℕ)). l ∷ r) (split_at_blank ls i (omega (arith, low)) is)
    ∙ ap (λ (n : ℕ). l ∷ (take i ls ++ [] ∷ drop n (l ∷ ls))) (sym next)

-- the first empty line divides lines in one way
pub split_once : (a x b y : List (List ℕ)) → list_all is_filled a ≡ true → list_all is_filled x ≡ true → a ++ [] ∷ b ≡ x ++ [] ∷ y
    → (a ≡ x) × (b ≡ y)
split_once [] [] b y fa fx same = (refl, cc)
split_once [] (c ∷ x) b y fa fx same =
    let empty : c ≡ [] = cc in
    let filled : is_filled c ≡ true = (and_parts (is_filled c) (list_all is_filled x) fx).0 in
    absurd (let no : is_filled [] ≡ true = subst (λ (l : List ℕ). is_filled l ≡ true) empty filled in cc)
split_once (c ∷ a) [] b y fa fx same =
    let empty : c ≡ [] = cc in
    let filled : is_filled c ≡ true = (and_parts (is_filled c) (list_all is_filled a) fa).0 in
    absurd (let no : is_filled [] ≡ true = subst (λ (l : List ℕ). is_filled l ≡ true) empty filled in cc)
split_once (c ∷ a) (d ∷ x) b y fa fx same =
    let head : c ≡ d = cc in
    let tail : a ++ [] ∷ b ≡ x ++ [] ∷ y = cc in
    let rest = split_once a x b y ((and_parts (is_filled c) (list_all is_filled a) fa).1)
    ((and_parts (is_filled d) (list_all is_filled x) fx).1) tail in
    let first : a ≡ x = rest.0 in
    (cc, rest.1)

pub no_blank : (lines x y : List (List ℕ)) → list_all is_filled lines ≡ true → lines ≡ x ++ [] ∷ y → ⊥
no_blank [] [] y filled is = cc
no_blank [] (c ∷ x) y filled is = cc
no_blank (l ∷ ls) [] y filled is =
    let empty : l ≡ [] = cc in
    let one : is_filled l ≡ true = (and_parts (is_filled l) (list_all is_filled ls) filled).0 in
    let no : is_filled [] ≡ true = subst (λ (l : List ℕ). is_filled l ≡ true) empty one in cc
no_blank (l ∷ ls) (c ∷ x) y filled is =
    let tail : ls ≡ x ++ [] ∷ y = cc in
    no_blank ls x y ((and_parts (is_filled l) (list_all is_filled ls) filled).1) tail

pub files_filled : (files : List SummedFile) → list_all is_filled (map file_line files) ≡ true
files_filled [] = refl
files_filled (f ∷ fs) = files_filled fs

pub read_take : (n : ℕ) (lines : List (Bor (List ℕ))) → read (take n lines) ≡ take n (read lines)
read_take zero lines = refl
read_take (suc n) [] = refl
read_take (suc n) (l ∷ ls) = ap (λ (r : List (List ℕ)). l.now ∷ r) (read_take n ls)

pub read_drop : (n : ℕ) (lines : List (Bor (List ℕ))) → read (drop n lines) ≡ drop n (read lines)
read_drop zero lines = refl
read_drop (suc n) [] = refl
read_drop (suc n) (l ∷ ls) = read_drop n ls

pub read_length : (lines : List (Bor (List ℕ))) → length (read lines) ≡ length lines
read_length [] = refl
read_length (l ∷ ls) = ap suc (read_length ls)

-- lent lines, divided at the first empty one
pub blank_divides : (lines : List (Bor (List ℕ))) (end : ℕ) → end < length lines → line (read lines) end ≡ []
    → list_all is_filled (take end (read lines)) ≡ true
    → (read lines ≡ read (take end lines) ++ [] ∷ read (drop (end + 1) lines)) × (list_all is_filled (read (take end lines)) ≡ true)
blank_divides lines end low is filled = (
  split_at_blank (read lines) end (omega (arith, low, read_length lines)) is
      ∙ ap₂ (λ (a b : List (List ℕ)). a ++ [] ∷ b) (sym (read_take end lines)) (sym (read_drop (end + 1) lines)),
  ap (λ (l : List (List ℕ)). list_all is_filled l) (read_take end lines) ∙ filled,
)
