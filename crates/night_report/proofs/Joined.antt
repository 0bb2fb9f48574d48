-- What is told of interchanges and of those behind them is what is told of both in a row.
use Rattle.std.proofs.Common.{◌≡◌, ℕ, suc, ◌+◌, List, [], ◌∷◌, ◌++◌, cond, length, sym, ap, ◌∙◌, arith, append_assoc}
use Rattle.std.specs.Prelude.{count_by, filter, sum_by}
use Rattle.std.specs.List.{flat_map}
use Rattle.std.proofs.lemmas.List.{length-append}
use Rattle.std.proofs.lemmas.Grind.{flat_map-append}
use Rattle.std.proofs.lemmas.List.Elements.{filter-append}
use Rattle.std.proofs.lemmas.List.Sums.{sum_by-append}
use Rattle.partner_setup.specs.Setup.{SetupValue}
use Rattle.answered_sets.specs.Judged.{JudgedValue, all_sets, is_refused, sets_of}
use Rattle.night_report.specs.Adding.{together}
use Rattle.night_report.specs.Report.{ShownGroup, accepted_count, all_lines, counted_groups, groups_shown, held_count}
use Rattle.night_report.specs.Report.{interchange_lines, is_counted, report_totals, set_count}
use Rattle.night_report.specs.Told.{ToldValue, joined, told_alone}
use Rattle.night_report.specs.declared.totals.Totals.{Totals}

abbrev refusal : JudgedValue → ℕ
refusal x = cond (is_refused x) 1 0

abbrev made : ℕ → ℕ → ℕ → ℕ → ℕ → ℕ → Totals
made a b c d e f = record { interchanges = a; refused = b; groups = c; sets = d; accepted = e; held = f }

counted_joined : (xs ys : List JudgedValue) → counted_groups (xs ++ ys) ≡ counted_groups xs ++ counted_groups ys
counted_joined xs ys =
    ap (filter is_counted) (flat_map-append groups_shown xs ys)
    ∙ filter-append is_counted (flat_map groups_shown xs) (flat_map groups_shown ys)

pub totals_joined : (setup : SetupValue) (xs ys : List JudgedValue)
    → report_totals setup (xs ++ ys) ≡ together (report_totals setup xs) (report_totals setup ys)
totals_joined setup xs ys =
    let gs : List ShownGroup = counted_groups xs in
    let hs : List ShownGroup = counted_groups ys in
    let groups : List ShownGroup → Totals = λ l. made (length (xs ++ ys)) (count_by is_refused (xs ++ ys)) (length l) (sum_by set_count l)
    (sum_by accepted_count l) (sum_by (held_count setup) (all_sets (xs ++ ys))) in
    ap groups (counted_joined xs ys)
    ∙ ap (λ (n : ℕ). made n (count_by is_refused (xs ++ ys)) (length (gs ++ hs)) (sum_by set_count (gs ++ hs))
    (sum_by accepted_count (gs ++ hs)) (sum_by (held_count setup) (all_sets (xs ++ ys)))) (length-append xs ys)
    ∙ ap (λ (n : ℕ). made (length xs + length ys) n (length (gs ++ hs)) (sum_by set_count (gs ++ hs))
    (sum_by accepted_count (gs ++ hs)) (sum_by (held_count setup) (all_sets (xs ++ ys)))) (sum_by-append refusal xs ys)
    ∙ ap (λ (n : ℕ). made (length xs + length ys) (count_by is_refused xs + count_by is_refused ys) n (sum_by set_count (gs ++ hs))
    (sum_by accepted_count (gs ++ hs)) (sum_by (held_count setup) (all_sets (xs ++ ys)))) (length-append gs hs)
    ∙ ap (λ (n : ℕ). made (length xs + length ys) (count_by is_refused xs + count_by is_refused ys) (length gs + length hs) n
    (sum_by accepted_count (gs ++ hs)) (sum_by (held_count setup) (all_sets (xs ++ ys)))) (sum_by-append set_count gs hs)
    ∙ ap (λ (n : ℕ). made (length xs + length ys) (count_by is_refused xs + count_by is_refused ys) (length gs + length hs)
    (sum_by set_count gs + sum_by set_count hs) n (sum_by (held_count setup) (all_sets (xs ++ ys)))) (sum_by-append accepted_count gs hs)
    ∙ ap (λ (n : ℕ). made (length xs + length ys) (count_by is_refused xs + count_by is_refused ys) (length gs + length hs)
    (sum_by set_count gs + sum_by set_count hs) (sum_by accepted_count gs + sum_by accepted_count hs) n)
    (ap (sum_by (held_count setup)) (flat_map-append sets_of xs ys) ∙ sum_by-append (held_count setup) (all_sets xs) (all_sets ys))

pub lines_joined : (setup : SetupValue) (base n : ℕ) (xs ys : List JudgedValue)
    → all_lines setup base n (xs ++ ys) ≡ all_lines setup base n xs ++ all_lines setup base (n + length xs) ys
lines_joined setup base n [] ys = ap (λ (k : ℕ). all_lines setup base k ys) (omega arith)
lines_joined setup base n (x ∷ xs) ys =
    let further : n + 1 + length xs ≡ n + suc (length xs) = omega arith in
    ap (λ (t : List ℕ). interchange_lines setup base n x ++ t) (lines_joined setup base (n + 1) xs ys
    ∙ ap (λ (k : ℕ). all_lines setup base (n + 1) xs ++ all_lines setup base k ys) further)
    ∙ sym (append_assoc (interchange_lines setup base n x) (all_lines setup base (n + 1) xs)
    (all_lines setup base (n + suc (length xs)) ys))

-- numbered on, both halves are told as the whole
pub halves_joined : (setup : SetupValue) (base before behind : ℕ) (xs ys all : List JudgedValue) → behind ≡ before + length xs
    → xs ++ ys ≡ all → joined (told_alone setup base before xs) (told_alone setup base behind ys) ≡ told_alone setup base before all
halves_joined setup base before behind xs ys all is both =
    let from : behind + 1 ≡ before + 1 + length xs = omega (arith, is) in
    let value : List ℕ → Totals → ℕ → ToldValue = λ l t n. record { lines = l; totals = t; count = n } in
    ap (λ (k : ℕ). value (all_lines setup base (before + 1) xs ++ all_lines setup base k ys)
    (together (report_totals setup xs) (report_totals setup ys)) (length xs + length ys)) from
    ∙ ap (λ (l : List ℕ). value l (together (report_totals setup xs) (report_totals setup ys)) (length xs + length ys))
    (sym (lines_joined setup base (before + 1) xs ys))
    ∙ ap (λ (t : Totals). value (all_lines setup base (before + 1) (xs ++ ys)) t (length xs + length ys))
    (sym (totals_joined setup xs ys))
    ∙ ap (λ (n : ℕ). value (all_lines setup base (before + 1) (xs ++ ys)) (report_totals setup (xs ++ ys)) n)
    (sym (length-append xs ys))
    ∙ ap (told_alone setup base before) both
