use Rattle.std.proofs.Common.{◌≡◌, ◌≤◌, ◌∙◌, List, ℕ, arith, codes, get_or, length, option_map, subst, sym}
use Rattle.std.specs.Borrow.{Bor}
use Rattle.csv_fields.specs.Csv.{read}
use Rattle.night_record.specs.Reading.{IsHeadFault, IsNoBefore, IsNoMoment, IsNoName, IsNoNumber, IsNoStatus, line}
use Rattle.night_record.specs.declared.fault.Part.TheVariants as part
use Rattle.night_record.proofs.Begun.{begun_before, begun_moment, begun_name, begun_number}
use Rattle.night_record.proofs.Begun.{begun_release, begun_status, begun_version, head_fault}
use Rattle.night_record.proofs.Passing.{same_fault}
use Rattle.night_record.proofs.Sliced.{line_at, none, read_length}
use Rattle.night_record.proofs.head.read_head.Goals as goal

pub returns-in_err-read_count-clause-refused : goal.returns-in_err-read_count-clause-refused
returns-in_err-read_count-clause-refused c =
    let lines : List (List ℕ) = read c.args.lines.now in
    let long : 8 ≤ length lines = omega (arith, read_length c.args.lines.now, c.requires) in
    let at : (k : ℕ) → line lines k ≡ (get_or c.args.lines.now k none).now = line_at c.args.lines.now in
    let e = c.in_err-read_count.field-0.0 in
    same_fault c.from_residual-in_err-read_count.result e (IsHeadFault lines) c.from_residual-in_err-read_count.ensures.1
    (head_fault part.Number lines (IsNoNumber (codes "number") (get_or c.args.lines.now 1 none).now)
    (begun_version lines long (at 0 ∙ c.in_ok-check_version.ensures.right))
    (λ no. subst (λ (l : List ℕ). IsNoNumber (codes "number") l) (sym (at 1)) no) e c.in_err-read_count.ensures.refused)

pub returns-in_err-read_name-clause-refused : goal.returns-in_err-read_name-clause-refused
returns-in_err-read_name-clause-refused c =
    let lines : List (List ℕ) = read c.args.lines.now in
    let long : 8 ≤ length lines = omega (arith, read_length c.args.lines.now, c.requires) in
    let at : (k : ℕ) → line lines k ≡ (get_or c.args.lines.now k none).now = line_at c.args.lines.now in
    let e = c.in_err-read_name.field-0.0 in
    same_fault c.from_residual-in_err-read_name.result e (IsHeadFault lines) c.from_residual-in_err-read_name.ensures.1
    (head_fault part.Name lines (IsNoName (codes "name") (get_or c.args.lines.now 2 none).now)
    (begun_number lines c.in_ok-read_count.field-0 long (at 0 ∙ c.in_ok-check_version.ensures.right) (at 1 ∙
    c.in_ok-read_count.ensures.number.0) c.in_ok-read_count.ensures.number.1)
    (λ no. subst (λ (l : List ℕ). IsNoName (codes "name") l) (sym (at 2)) no) e c.in_err-read_name.ensures.refused)

pub returns-in_err-read_moment-clause-refused : goal.returns-in_err-read_moment-clause-refused
returns-in_err-read_moment-clause-refused c =
    let lines : List (List ℕ) = read c.args.lines.now in
    let long : 8 ≤ length lines = omega (arith, read_length c.args.lines.now, c.requires) in
    let at : (k : ℕ) → line lines k ≡ (get_or c.args.lines.now k none).now = line_at c.args.lines.now in
    let e = c.in_err-read_moment.field-0.0 in
    same_fault c.from_residual-in_err-read_moment.result e (IsHeadFault lines) c.from_residual-in_err-read_moment.ensures.1
    (head_fault part.Moment lines (IsNoMoment (codes "moment") (get_or c.args.lines.now 3 none).now)
    (begun_name lines c.in_ok-read_count.field-0 c.in_ok-read_name.field-0.now long (at 0 ∙ c.in_ok-check_version.ensures.right)
    (at 1 ∙ c.in_ok-read_count.ensures.number.0) c.in_ok-read_count.ensures.number.1 (at 2 ∙ c.in_ok-read_name.ensures.name.0)
    c.in_ok-read_name.ensures.name.1)
    (λ no. subst (λ (l : List ℕ). IsNoMoment (codes "moment") l) (sym (at 3)) no) e c.in_err-read_moment.ensures.refused)

pub returns-in_err-read_before-clause-refused : goal.returns-in_err-read_before-clause-refused
returns-in_err-read_before-clause-refused c =
    let lines : List (List ℕ) = read c.args.lines.now in
    let long : 8 ≤ length lines = omega (arith, read_length c.args.lines.now, c.requires) in
    let at : (k : ℕ) → line lines k ≡ (get_or c.args.lines.now k none).now = line_at c.args.lines.now in
    let e = c.in_err-read_before.field-0.0 in
    same_fault c.from_residual-in_err-read_before.result e (IsHeadFault lines) c.from_residual-in_err-read_before.ensures.1
    (head_fault part.Before lines (IsNoBefore (codes "before") (get_or c.args.lines.now 4 none).now)
    (begun_moment lines c.in_ok-read_count.field-0 c.in_ok-read_name.field-0.now c.in_ok-read_moment.field-0.now long (at 0 ∙
    c.in_ok-check_version.ensures.right) (at 1 ∙ c.in_ok-read_count.ensures.number.0) c.in_ok-read_count.ensures.number.1 (at 2 ∙
    c.in_ok-read_name.ensures.name.0) c.in_ok-read_name.ensures.name.1 (at 3 ∙ c.in_ok-read_moment.ensures.moment.0)
    c.in_ok-read_moment.ensures.moment.1)
    (λ no. subst (λ (l : List ℕ). IsNoBefore (codes "before") l) (sym (at 4)) no) e c.in_err-read_before.ensures.refused)

pub returns-in_err-read_status-clause-refused : goal.returns-in_err-read_status-clause-refused
returns-in_err-read_status-clause-refused c =
    let lines : List (List ℕ) = read c.args.lines.now in
    let long : 8 ≤ length lines = omega (arith, read_length c.args.lines.now, c.requires) in
    let at : (k : ℕ) → line lines k ≡ (get_or c.args.lines.now k none).now = line_at c.args.lines.now in
    let e = c.in_err-read_status.field-0.0 in
    same_fault c.from_residual-in_err-read_status.result e (IsHeadFault lines) c.from_residual-in_err-read_status.ensures.1
    (head_fault part.Status lines (IsNoStatus (codes "status") (get_or c.args.lines.now 5 none).now)
    (begun_before lines c.in_ok-read_count.field-0 c.in_ok-read_name.field-0.now c.in_ok-read_moment.field-0.now (option_map (λ
    (sum : Bor (List ℕ)). sum.now) c.in_ok-read_before.field-0) long (at 0 ∙ c.in_ok-check_version.ensures.right) (at 1 ∙
    c.in_ok-read_count.ensures.number.0) c.in_ok-read_count.ensures.number.1 (at 2 ∙ c.in_ok-read_name.ensures.name.0)
    c.in_ok-read_name.ensures.name.1 (at 3 ∙ c.in_ok-read_moment.ensures.moment.0) c.in_ok-read_moment.ensures.moment.1 (at 4 ∙
    c.in_ok-read_before.ensures.before.0) c.in_ok-read_before.ensures.before.1)
    (λ no. subst (λ (l : List ℕ). IsNoStatus (codes "status") l) (sym (at 5)) no) e c.in_err-read_status.ensures.refused)

pub returns-in_err-read_name-2-clause-refused : goal.returns-in_err-read_name-2-clause-refused
returns-in_err-read_name-2-clause-refused c =
    let lines : List (List ℕ) = read c.args.lines.now in
    let long : 8 ≤ length lines = omega (arith, read_length c.args.lines.now, c.requires) in
    let at : (k : ℕ) → line lines k ≡ (get_or c.args.lines.now k none).now = line_at c.args.lines.now in
    let e = c.in_err-read_name-2.field-0.0 in
    same_fault c.from_residual-in_err-read_name-2.result e (IsHeadFault lines) c.from_residual-in_err-read_name-2.ensures.1
    (head_fault part.Release lines (IsNoName (codes "release") (get_or c.args.lines.now 6 none).now)
    (begun_status lines c.in_ok-read_count.field-0 c.in_ok-read_name.field-0.now c.in_ok-read_moment.field-0.now (option_map (λ
    (sum : Bor (List ℕ)). sum.now) c.in_ok-read_before.field-0) c.in_ok-read_status.field-0 long (at 0 ∙
    c.in_ok-check_version.ensures.right) (at 1 ∙ c.in_ok-read_count.ensures.number.0) c.in_ok-read_count.ensures.number.1 (at 2 ∙
    c.in_ok-read_name.ensures.name.0) c.in_ok-read_name.ensures.name.1 (at 3 ∙ c.in_ok-read_moment.ensures.moment.0)
    c.in_ok-read_moment.ensures.moment.1 (at 4 ∙ c.in_ok-read_before.ensures.before.0) c.in_ok-read_before.ensures.before.1 (at 5 ∙
    c.in_ok-read_status.ensures.status.0) c.in_ok-read_status.ensures.status.1)
    (λ no. subst (λ (l : List ℕ). IsNoName (codes "release") l) (sym (at 6)) no) e c.in_err-read_name-2.ensures.refused)

pub returns-in_err-read_moment-2-clause-refused : goal.returns-in_err-read_moment-2-clause-refused
returns-in_err-read_moment-2-clause-refused c =
    let lines : List (List ℕ) = read c.args.lines.now in
    let long : 8 ≤ length lines = omega (arith, read_length c.args.lines.now, c.requires) in
    let at : (k : ℕ) → line lines k ≡ (get_or c.args.lines.now k none).now = line_at c.args.lines.now in
    let e = c.in_err-read_moment-2.field-0.0 in
    same_fault c.from_residual-in_err-read_moment-2.result e (IsHeadFault lines) c.from_residual-in_err-read_moment-2.ensures.1
    (head_fault part.Clock lines (IsNoMoment (codes "clock") (get_or c.args.lines.now 7 none).now)
    (begun_release lines c.in_ok-read_count.field-0 c.in_ok-read_name.field-0.now c.in_ok-read_moment.field-0.now (option_map (λ
    (sum : Bor (List ℕ)). sum.now) c.in_ok-read_before.field-0) c.in_ok-read_status.field-0 c.in_ok-read_name-2.field-0.now long
    (at 0 ∙ c.in_ok-check_version.ensures.right) (at 1 ∙ c.in_ok-read_count.ensures.number.0) c.in_ok-read_count.ensures.number.1
    (at 2 ∙ c.in_ok-read_name.ensures.name.0) c.in_ok-read_name.ensures.name.1 (at 3 ∙ c.in_ok-read_moment.ensures.moment.0)
    c.in_ok-read_moment.ensures.moment.1 (at 4 ∙ c.in_ok-read_before.ensures.before.0) c.in_ok-read_before.ensures.before.1 (at 5 ∙
    c.in_ok-read_status.ensures.status.0) c.in_ok-read_status.ensures.status.1 (at 6 ∙ c.in_ok-read_name-2.ensures.name.0)
    c.in_ok-read_name-2.ensures.name.1)
    (λ no. subst (λ (l : List ℕ). IsNoMoment (codes "clock") l) (sym (at 7)) no) e c.in_err-read_moment-2.ensures.refused)
