-- A walk over interchanges, one interchange on.
use Rattle.std.proofs.Common.{ℕ, ◌≡◌, ◌<◌, ◌+◌, ◌++◌, List, length, drop, get_or, sym, ap, ◌∙◌, append_assoc}
use Rattle.std.proofs.lemmas.List.{drop_more}
use Rattle.partner_setup.specs.Setup.{SetupValue}
use Rattle.answered_sets.specs.Judged.{JudgedValue}
use Rattle.night_report.specs.Adding.{added, together}
use Rattle.night_report.specs.Report.{interchange_lines, all_lines}
use Rattle.night_report.specs.declared.totals.Totals.{Totals}

lines_at : (setup : SetupValue) (base n : ℕ) (xs : List JudgedValue) (i : ℕ) (x : JudgedValue) → i < length xs → x ≡ get_or xs i x
    → all_lines setup base n (drop i xs) ≡ interchange_lines setup base n x ++ all_lines setup base (n + 1) (drop (i + 1) xs)
lines_at setup base n xs i x l is =
    ap (all_lines setup base n) (drop_more xs i x l)
    ∙ ap (λ (y : JudgedValue). interchange_lines setup base n y ++ all_lines setup base (n + 1) (drop (i + 1) xs)) (sym is)

pub lines_on : (setup : SetupValue) (base n : ℕ) (xs : List JudgedValue) (i : ℕ) (x : JudgedValue) (out new all : List ℕ) → i < length xs
    → x ≡ get_or xs i x → new ≡ out ++ interchange_lines setup base n x → out ++ all_lines setup base n (drop i xs) ≡ all
    → new ++ all_lines setup base (n + 1) (drop (i + 1) xs) ≡ all
lines_on setup base n xs i x out new all l is written before =
    ap (λ (text : List ℕ). text ++ all_lines setup base (n + 1) (drop (i + 1) xs)) written
    ∙ append_assoc out (interchange_lines setup base n x) (all_lines setup base (n + 1) (drop (i + 1) xs))
    ∙ ap (λ (text : List ℕ). out ++ text) (sym (lines_at setup base n xs i x l is)) ∙ before

pub added_on : (count : JudgedValue → Totals) (xs : List JudgedValue) (i : ℕ) (x : JudgedValue) (before one now all : Totals)
    → i < length xs → x ≡ get_or xs i x → one ≡ count x → now ≡ together before one → added count before (drop i xs) ≡ all
    → added count now (drop (i + 1) xs) ≡ all
added_on count xs i x before one now all l is counted summed known =
    ap (λ (t : Totals). added count t (drop (i + 1) xs))
    (summed ∙ ap (together before) (counted ∙ ap count is))
    ∙ ap (added count before) (sym (drop_more xs i x l)) ∙ known
