use Rattle.std.proofs.Common.{◌≡◌, ◌<◌, List, ℕ, ap, arith, inl, inr, length, subst, sym}
use Rattle.std.proofs.lemmas.Result.{IfErr-weaker}
use Rattle.csv_fields.specs.Csv.{read}
use Rattle.night_record.specs.Lines.{AreLinesOf}
use Rattle.night_record.proofs.Sliced.{read_length}
use Rattle.night_record.proofs.Whole.{lines_fail, short_record, unended_record}
use Rattle.night_record.proofs.read.read_record.Goals as goal

pub returns-in_default-clause-refused : goal.returns-in_default-clause-refused
returns-in_default-clause-refused c =
    let none = c.in_ok-lines.ensures.none c.in_default.is in (inl none, unended_record c.args.bytes.now none)

pub returns-then-len-lt-LEAST_LINES-clause-refused : goal.returns-then-len-lt-LEAST_LINES-clause-refused
returns-then-len-lt-LEAST_LINES-clause-refused c =
    let are : AreLinesOf c.args.bytes.now (read c.in-Some.lines.items) = rw c.in-Some.is at c.in_ok-lines.ensures.lines in
    let short : length (read c.in-Some.lines.items) < 12 =
    omega (arith, read_length c.in-Some.lines.items, c.len.ensures, c.if-len-lt-LEAST_LINES.true) in (
      inr (record { lines = read c.in-Some.lines.items; are = are; short = short }),
      short_record c.args.bytes.now (read c.in-Some.lines.items) are short,
    )

pub returns-clause-refused : goal.returns-clause-refused
returns-clause-refused c =
    let are : AreLinesOf c.args.bytes.now (read c.in-Some.lines.items) = rw c.in-Some.is at c.in_ok-lines.ensures.lines in
    let lent : read c.as_slice.result.now ≡ read c.in-Some.lines.items = ap read c.as_slice.ensures.value in
    IfErr-weaker c.record_of.result _ _ (λ e wrong. lines_fail c.args.bytes.now (read c.as_slice.result.now)
    (subst (λ (l : List (List ℕ)). AreLinesOf c.args.bytes.now l) (sym lent) are) e wrong) c.record_of.ensures.refused
