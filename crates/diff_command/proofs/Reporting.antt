-- What was read at two paths.
use Rattle.std.proofs.Common.{◌≡◌, ℕ, List, ◌++◌, arith, inl, inr, refl, subst, sym}
use Rattle.guide_tree.specs.declared.rows.GuideRows.{GuideRows}
use Rattle.check_command.specs.declared.judged.Judged.{Judged}
use Rattle.check_command.specs.declared.judged.Judged.TheVariants as judged
use Rattle.diff_report.specs.Compared.{IsCompared}
use Rattle.diff_command.specs.Failure.{CantWrite, status_of}
use Rattle.diff_command.specs.Outcome.{AreRefused, IsBefore, IsJudged, IsRead, IsRefused, IsReport, refused_line}
use Rattle.diff_command.specs.declared.failure.Failure.{Failure}
use Rattle.diff_command.specs.declared.failure.Failure.TheVariants as failure

taken : (path : List ℕ) (j : Judged GuideRows) (guide : GuideRows) → j ≡ judged.Taken guide → IsJudged path j → IsRead path guide
taken path j guide is judged = subst (IsJudged path) is judged

refused : (path : List ℕ) (j : Judged GuideRows) (text : List ℕ) → j ≡ judged.Refused text → IsJudged path j → IsRefused path text
refused path j text is judged = subst (IsJudged path) is judged

pub reported : (old new : List ℕ) (a b : Judged GuideRows) (was is : GuideRows) (text : List ℕ) (status : ℕ) → a ≡ judged.Taken was
    → b ≡ judged.Taken is → IsJudged old a → IsJudged new b → IsCompared was is text status → IsReport old new text status
reported old new a b was is text status at bt ja jb compared =
    record { was = was; is = is; old_guide = taken old a was at ja; new_guide = taken new b is bt jb; compared = compared }

pub old_refused : (old new : List ℕ) (a b : Judged GuideRows) (text lines : List ℕ) → a ≡ judged.Refused text → IsJudged old a
    → IsJudged new b → lines ≡ refused_line old a ++ refused_line new b → AreRefused old new lines
old_refused old new a b text lines at ja jb said =
    record { was = a; is = b; old_guide = ja; new_guide = jb; some = inl (text, refused old a text at ja); said = said }

pub new_refused : (old new : List ℕ) (a b : Judged GuideRows) (text lines : List ℕ) → b ≡ judged.Refused text → IsJudged old a
    → IsJudged new b → lines ≡ refused_line old a ++ refused_line new b → AreRefused old new lines
new_refused old new a b text lines bt ja jb said =
    record { was = a; is = b; old_guide = ja; new_guide = jb; some = inr (text, refused new b text bt jb); said = said }

-- a failure that ends with 3 is of a guide
pub of_guide : (old new : List ℕ) (f : Failure) → IsBefore old new f → status_of f ≡ 3 → (lines : List ℕ) × AreRefused old new lines
of_guide old new (failure.Guide lines) is three = (lines, is)
of_guide old new (failure.Output line) is three = absurd (omega (arith, three))
of_guide old new failure.Memory is three = absurd (omega (arith, three))

pub new_before : (old new : List ℕ) (a b : Judged GuideRows) (text : List ℕ) (f : Failure) → b ≡ judged.Refused text → IsJudged old a
    → IsJudged new b → f ≡ failure.Guide (refused_line old a ++ refused_line new b) → IsBefore old new f
new_before old new a b text f bt ja jb is =
    subst (IsBefore old new) (sym is) (new_refused old new a b text (refused_line old a ++ refused_line new b) bt ja jb refl)

-- a sample that can't be written is such a cause
pub unwritten : (old new : List ℕ) (f : Failure) → CantWrite f → IsBefore old new f
unwritten old new (failure.Guide lines) is = absurd is
unwritten old new (failure.Output line) is = tt
unwritten old new failure.Memory is = tt
