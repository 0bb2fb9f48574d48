use Rattle.std.proofs.Common.{◌≡◌, ◌∙◌, List, ℕ, ap, arith, drop, subst, sym, take}
use Rattle.csv_fields.specs.Csv.{read}
use Rattle.night_record.specs.Reading.{AreRecordLines, ArePartsOf, IsHead, IsHeadFault, IsLinesFault, IsPartsFault}
use Rattle.night_record.specs.declared.record.NightRecord.{NightRecord}
use Rattle.night_record.proofs.Parted.{head_fails, parts_fail}
use Rattle.night_record.proofs.Passing.{same_fault}
use Rattle.night_record.proofs.Sliced.{read_drop, read_length, read_take}
use Rattle.night_record.proofs.Whole.{whole_lines}
use Rattle.night_record.proofs.read.record_of.Goals as goal

pub returns-in_err-parts-clause-refused : goal.returns-in_err-parts-clause-refused
returns-in_err-parts-clause-refused c =
    let lines : List (List ℕ) = read c.args.lines.now in
    let front : read c.split_at.result.0.now ≡ take 8 lines = ap read c.split_at.ensures.front ∙ read_take 8 c.args.lines.now in
    let back : read c.split_at.result.1.now ≡ drop 8 lines = ap read c.split_at.ensures.back ∙ read_drop 8 c.args.lines.now in
    same_fault c.from_residual-in_err-parts.result c.in_err-parts.field-0.0 (IsLinesFault lines)
    c.from_residual-in_err-parts.ensures.1
    (parts_fail lines c.in_ok-head.head (omega (arith, read_length c.args.lines.now, c.requires))
    (subst (λ (l : List (List ℕ)). IsHead l c.in_ok-head.head) front c.in_ok-head.ensures.head) c.in_err-parts.field-0.0
    (subst (λ (l : List (List ℕ)). IsPartsFault l c.in_err-parts.field-0.0) back c.in_err-parts.ensures.refused))

pub returns-clause-record_is : goal.returns-clause-record_is
returns-clause-record_is c =
    let lines : List (List ℕ) = read c.args.lines.now in
    let head = c.in_ok-head.head in
    let made = c.in_ok-parts.parts.made_of.items in
    let gave = c.in_ok-parts.parts.gave.items in
    let front : read c.split_at.result.0.now ≡ take 8 lines = ap read c.split_at.ensures.front ∙ read_take 8 c.args.lines.now in
    let back : read c.split_at.result.1.now ≡ drop 8 lines = ap read c.split_at.ensures.back ∙ read_drop 8 c.args.lines.now in
    subst (λ (night : NightRecord). AreRecordLines lines night) (sym c.in_ok-joined.ensures)
    (whole_lines lines head made gave (omega (arith, read_length c.args.lines.now, c.requires))
    (subst (λ (l : List (List ℕ)). IsHead l head) front c.in_ok-head.ensures.head)
    (subst (λ (l : List (List ℕ)). ArePartsOf l made gave) back c.in_ok-parts.ensures.parts))

pub returns-in_err-head-clause-refused : goal.returns-in_err-head-clause-refused
returns-in_err-head-clause-refused c =
    let lines : List (List ℕ) = read c.args.lines.now in
    let front : read c.split_at.result.0.now ≡ take 8 lines = ap read c.split_at.ensures.front ∙ read_take 8 c.args.lines.now in
    same_fault c.from_residual.result c.in_err-head.field-0.0 (IsLinesFault lines) c.from_residual.ensures.1
    (head_fails lines c.in_err-head.field-0.0
    (subst (λ (l : List (List ℕ)). IsHeadFault l c.in_err-head.field-0.0) front c.in_err-head.ensures.refused))
