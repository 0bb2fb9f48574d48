use Rattle.std.proofs.Common.{◌≡◌, ◌∙◌, ◌+◌, ◌-◌, List, ℕ, [], ◌∷◌, ◌++◌, ap, arith, codes, drop, length, length-drop, map, sym, take}
use Rattle.std.specs.Borrow.{Bor}
use Rattle.std.proofs.lemmas.List.{take_all}
use Rattle.csv_fields.specs.Csv.{read}
use Rattle.night_record.specs.Reading.{IsNoMadeOf, IsWrongFor}
use Rattle.night_record.specs.Record.{file_line}
use Rattle.night_record.specs.declared.fault.Part.TheVariants as part
use Rattle.night_record.proofs.Parted.{made_of_fails, no_made_of}
use Rattle.night_record.proofs.Passing.{same_fault}
use Rattle.night_record.proofs.Sliced.{blank_divides}
use Rattle.night_record.proofs.parts.read_made_of.Goals as goal

pub returns-in_err-files-clause-refused : goal.returns-in_err-files-clause-refused
returns-in_err-files-clause-refused c =
    let lines : List (List ℕ) = read c.args.lines.now in
    let rest : List (Bor (List ℕ)) = c.in-Some.rest.now in
    let end : ℕ = c.in-Some-blank_in.end in
    let cut = blank_divides rest end c.in-Some-blank_in.ensures.0 c.in-Some-blank_in.ensures.1 c.in-Some-blank_in.ensures.2 in
    same_fault c.from_residual.result c.in_err-files.field-0.0 (IsWrongFor part.MadeOf (IsNoMadeOf lines)) c.from_residual.ensures.1
    (made_of_fails lines (read (take end rest)) (no_made_of lines (read rest) (read (take end rest)) (read (drop (end + 1) rest))
    c.in-Some.ensures cut.0 cut.1) c.in_err-files.field-0.0 c.in_err-files.ensures.refused)

pub returns-clause-files : goal.returns-clause-files
returns-clause-files c =
    let rest : List (Bor (List ℕ)) = c.in-Some.rest.now in
    let end : ℕ = c.in-Some-blank_in.end in
    let cut = blank_divides rest end c.in-Some-blank_in.ensures.0 c.in-Some-blank_in.ensures.1 c.in-Some-blank_in.ensures.2 in
    let files = c.in_ok-files.ensures.files in
    let long : length (drop (end + 1) rest) ≡ length rest - (end + 1) = length-drop (end + 1) rest in
    let whole : take (length rest - (end + 1)) (drop (end + 1) rest) ≡ drop (end + 1) rest =
    take_all (length rest - (end + 1)) (drop (end + 1) rest) (omega (arith, long)) in
    record {
      lines_are = c.in-Some.ensures
          ∙ ap (λ (l : List (List ℕ)). [] ∷ codes "[made_of]" ∷ l)
          (cut.0 ∙ ap (λ (l : List (List ℕ)). l ++ [] ∷ read (drop (end + 1) rest)) files.lines_are
          ∙ ap (λ (l : List (Bor (List ℕ))). map file_line c.in_ok-files.files.items ++ [] ∷ read l) (sym whole));
      can_be = files.can_be;
    }
