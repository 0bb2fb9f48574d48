-- What is between the fixed parts of a line.
use Rattle.std.proofs.Common.{◌≡◌, ◌≢◌, ◌∙◌, ℕ, ◌+◌, ◌-◌, ◌≤◌, true, List, ◌++◌, Option, Some, None}
use Rattle.std.proofs.Common.{append_assoc, ap, ap₂, arith, codes, drop, length, length-append, refl, sym, take}
use Rattle.std.specs.Prelude.{MatchOption, decimal}
use Rattle.std.specs.Borrow.{Bor}
use Rattle.std.proofs.lemmas.Bool.{and_parts, eqb-true}
use Rattle.std.proofs.lemmas.Fmt.{decimal_injective}
use Rattle.std.proofs.lemmas.List.{append_cancel_left, append_cancel_right}
use Rattle.std.proofs.Math.Seq.{drop-append_seam, take-append_seam}
use Rattle.night_record.specs.Record.{file_line, is_file, number_line, text_line}
use Rattle.night_record.specs.Values.{is_name, is_sum}
use Rattle.night_record.specs.declared.record.SummedFile.{SummedFile}

-- a part of a part
pub inside : (wrap f : List ℕ → List ℕ) (r : Option (Bor (List ℕ))) (line rest : List ℕ) → line ≡ wrap rest
    → ((a b : List ℕ) → wrap a ≡ wrap b → a ≡ b)
    → MatchOption r ((v : List ℕ) → rest ≢ f v) (λ (v : Bor (List ℕ)). rest ≡ f v.now)
    → MatchOption r ((v : List ℕ) → line ≢ wrap (f v)) (λ (v : Bor (List ℕ)). line ≡ wrap (f v.now))
inside wrap f None line rest is once none = λ v same. none v (once rest (f v) (sym is ∙ same))
inside wrap f (Some v) line rest is once found = is ∙ ap wrap found

pub numbered : (wrap : List ℕ → List ℕ) (r : Option ℕ) (line rest : List ℕ) → line ≡ wrap rest
    → ((a b : List ℕ) → wrap a ≡ wrap b → a ≡ b)
    → MatchOption r ((n : ℕ) → n ≤ 999999999 → rest ≢ decimal n) (λ n. (rest ≡ decimal n) × (n ≤ 999999999))
    → MatchOption r ((n : ℕ) → n ≤ 999999999 → line ≢ wrap (decimal n)) (λ n. (line ≡ wrap (decimal n)) × (n ≤ 999999999))
numbered wrap None line rest is once none = λ n small same. none n small (once rest (decimal n) (sym is ∙ same))
numbered wrap (Some n) line rest is once found = (is ∙ ap wrap found.0, found.1)

pub after_key : (key a b : List ℕ) → key ++ (codes " = " ++ a) ≡ key ++ (codes " = " ++ b) → a ≡ b
after_key key a b same =
    append_cancel_left (codes " = ") a b (append_cancel_left key (codes " = " ++ a) (codes " = " ++ b) same)

quoted_once : (a b : List ℕ) → codes "\"" ++ (a ++ codes "\"") ≡ codes "\"" ++ (b ++ codes "\"") → a ≡ b
quoted_once a b same =
    append_cancel_right a b (codes "\"") (append_cancel_left (codes "\"") (a ++ codes "\"") (b ++ codes "\"") same)

-- a line of a text has the text once, and that of a number the number
pub text_once : (key a b : List ℕ) → text_line key a ≡ text_line key b → a ≡ b
text_once key a b same =
    quoted_once a b (after_key key (codes "\"" ++ (a ++ codes "\"")) (codes "\"" ++ (b ++ codes "\"")) same)

pub number_once : (key : List ℕ) (n m : ℕ) → n ≤ 999999999 → m ≤ 999999999 → number_line key n ≡ number_line key m → n ≡ m
number_once key n m small other same =
    decimal_injective n m (omega arith) (omega arith) (after_key key (decimal n) (decimal m) same)

-- what is between the outer quotation marks of a file's line
abbrev pub both_of : SummedFile → List ℕ
both_of file = file.name ++ (codes "\" = \"" ++ file.sum)

pub both_quoted : (file : SummedFile) → file_line file ≡ codes "\"" ++ (both_of file ++ codes "\"")
both_quoted file =
    ap (λ (t : List ℕ). codes "\"" ++ t)
    (ap (λ (t : List ℕ). file.name ++ t) (sym (append_assoc (codes "\" = \"") file.sum (codes "\"")))
    ∙ sym (append_assoc file.name (codes "\" = \"" ++ file.sum) (codes "\"")))

pub both_is : (file : SummedFile) (line both : List ℕ) → line ≡ codes "\"" ++ (both ++ codes "\"") → line ≡ file_line file
    → both ≡ both_of file
both_is file line both is same = quoted_once both (both_of file) (sym is ∙ same ∙ both_quoted file)

pub sum_long : (sum : List ℕ) → is_sum sum ≡ true → length sum ≡ 64
sum_long sum is = eqb-true (length sum) 64 ((and_parts _ _ is).0)

pub file_parts : (file : SummedFile) → is_file file ≡ true → (is_name file.name ≡ true) × (is_sum file.sum ≡ true)
file_parts file is = and_parts (is_name file.name) (is_sum file.sum) is

-- the name with what comes after it, and the sum
pub cut_both : (file : SummedFile) (both : List ℕ) → is_file file ≡ true → both ≡ both_of file
    → (take (length both - 64) both ≡ file.name ++ codes "\" = \"") × (drop (length both - 64) both ≡ file.sum)
cut_both file both can is =
    let front : List ℕ = file.name ++ codes "\" = \"" in
    let long : length file.sum ≡ 64 = sum_long file.sum ((file_parts file can).1) in
    let whole : both ≡ front ++ file.sum = is ∙ sym (append_assoc file.name (codes "\" = \"") file.sum) in
    let size : length both ≡ length front + length file.sum = ap length whole ∙ length-append front file.sum in
    let at : length both - 64 ≡ length front = omega (arith, size, long) in (
      ap (λ (n : ℕ). take n both) at ∙ ap (λ (t : List ℕ). take (length front) t) whole ∙ take-append_seam front file.sum,
      ap (λ (n : ℕ). drop n both) at ∙ ap (λ (t : List ℕ). drop (length front) t) whole ∙ drop-append_seam front file.sum,
    )

-- a line of a file has the file once
pub file_once : (file other : SummedFile) → is_file file ≡ true → is_file other ≡ true → file_line file ≡ file_line other → file ≡ other
file_once file other can other_can same =
    let both = both_is other (file_line file) (both_of file) (both_quoted file) same in
    let mine = cut_both file (both_of file) can refl in
    let theirs = cut_both other (both_of file) other_can both in
    let name : file.name ≡ other.name =
    append_cancel_right file.name other.name (codes "\" = \"") (sym mine.0 ∙ theirs.0) in
    ap₂ (λ (n t : List ℕ). let made : SummedFile = record { name = n; sum = t } in made) name (sym mine.1 ∙ theirs.1)
