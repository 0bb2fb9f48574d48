-- Private. How the 999s of an interchange are shared by threads (own).
use Rattle.std.specs.Prelude.{ℕ, ◌+◌, List, [], ◌∷◌, Option, Some, None}
use Rattle.x12_bytes.specs.declared.delims.Delims.{Delims}
use Rattle.ack_999.specs.Report.{text_999}
use Rattle.set_answers.specs.declared.answered.AnsweredGroup.{AnsweredGroup}

-- the number of each 999, the first of them n; a group that nothing is answered to has that of the next
abbrev pub numbers_from : (n : ℕ) → List (Option AnsweredGroup) → List ℕ
numbers_from n [] = []
numbers_from n (None ∷ xs) = n ∷ numbers_from n xs
numbers_from n (Some x ∷ xs) = n ∷ numbers_from (n + 1) xs

-- what is reported of a group: a 999, or nothing
abbrev pub report_of : Delims → (n : ℕ) → Option AnsweredGroup → List ℕ
report_of d n None = []
report_of d n (Some g) = text_999 d g.answer g.sets n

-- what is reported of each, the first 999 as number n
abbrev pub written_from : Delims → (n : ℕ) → List (Option AnsweredGroup) → List (List ℕ)
written_from d n [] = []
written_from d n (None ∷ xs) = [] ∷ written_from d n xs
written_from d n (Some x ∷ xs) = report_of d n (Some x) ∷ written_from d (n + 1) xs
