-- The files of lines.
use Rattle.std.proofs.Common.{◌≡◌, ◌∙◌, ℕ, ◌<◌, zero, suc, true, List, [], ◌∷◌, ap₂, arith, get_or, length, map, refl}
use Rattle.std.specs.Borrow.{Bor}
use Rattle.std.specs.List.{list_all}
use Rattle.std.proofs.lemmas.Bool.{and_parts}
use Rattle.csv_fields.specs.Csv.{read}
use Rattle.night_record.specs.Record.{file_line, is_file}
use Rattle.night_record.specs.declared.record.SummedFile.{SummedFile}
use Rattle.night_record.proofs.Between.{file_once}

pub record IsFileLine (line : List ℕ) : Type 0 where
  pub file : SummedFile
  pub can_be : is_file file ≡ true
  pub line_is : line ≡ file_line file

-- a line of files is that of a file
pub file_at : (lines : List (Bor (List ℕ))) (files : List SummedFile) (i : ℕ) (x d : Bor (List ℕ)) → i < length lines → x ≡ get_or
    lines i d
    → read lines ≡ map file_line files → list_all is_file files ≡ true → IsFileLine x.now
file_at [] files i x d low is same can = absurd (omega (arith, low))
file_at (l ∷ ls) [] i x d low is same can = absurd (cc)
file_at (l ∷ ls) (f ∷ fs) zero x d low is same can =
    let head : l.now ≡ file_line f = cc in
    let lent : x.now ≡ l.now = cc in
    record { file = f; can_be = (and_parts (is_file f) (list_all is_file fs) can).0; line_is = lent ∙ head }
file_at (l ∷ ls) (f ∷ fs) (suc i) x d low is same can =
    let tail : read ls ≡ map file_line fs = cc in
    file_at ls fs i x d (omega (arith, low)) is tail ((and_parts (is_file f) (list_all is_file fs) can).1)

-- lines are those of one list of files
pub files_once : (files other : List SummedFile) → list_all is_file files ≡ true → list_all is_file other ≡ true
    → map file_line files ≡ map file_line other → files ≡ other
files_once [] [] can other_can same = refl
files_once [] (g ∷ gs) can other_can same = absurd (cc)
files_once (f ∷ fs) [] can other_can same = absurd (cc)
files_once (f ∷ fs) (g ∷ gs) can other_can same =
    let mine = and_parts (is_file f) (list_all is_file fs) can in
    let theirs = and_parts (is_file g) (list_all is_file gs) other_can in
    let head : file_line f ≡ file_line g = cc in
    let tail : map file_line fs ≡ map file_line gs = cc in
    ap₂ (λ (x : SummedFile) (l : List SummedFile). x ∷ l) (file_once f g mine.0 theirs.0 head) (files_once fs gs mine.1 theirs.1 tail)
