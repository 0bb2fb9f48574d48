use Rattle.std.proofs.Common.{◌≡◌, ◌∙◌, ◌++◌, Bool, ℕ, List, ap, map, sym}
use Rattle.std.specs.Borrow.{Bor}
use Rattle.csv.specs.declared.record.ByteRecord.{ByteRecord}
use Rattle.csv.specs.Records.{fields_of}
use Rattle.sets_again.specs.Again.{chosen_in}
use Rattle.sets_again.specs.Fits.{groups_fit}
use Rattle.sets_again.specs.Rows.{Row, firsts, is_wanted}
use Rattle.sets_again.specs.Text.{interchange_part}
use Rattle.sets_again.proofs.Steps.{fits_by_sets, part_by_sets}
use Rattle.sets_again.proofs.again.append_sets.Goals as goal

pub returns-clause-fits : goal.returns-clause-fits
returns-clause-fits c =
    let f : Bor ByteRecord → Row = λ r. fields_of r.now in
    let x = c.args.interchange.now in
    let rows : List Row = map fields_of c.args.rows.now in
    c.groups_fit.ensures
    ∙ ap (λ (l : List Row). groups_fit x.content.groups l) (ap (map f) c.as_slice-3.ensures.value ∙ c.in_ok-first.ensures)
    ∙ sym (fits_by_sets x rows c.requires)

pub returns-clause-text : goal.returns-clause-text
returns-clause-text c =
    let f : Bor ByteRecord → Row = λ r. fields_of r.now in
    let x = c.args.interchange.now in
    let text : List ℕ = c.args.text.now in
    let rows : List Row = map fields_of c.args.rows.now in
    let which = c.args.wanted in
    let chosen_is : c.as_slice-2.result.now ≡ chosen_in which rows =
    c.as_slice-2.ensures.value ∙ c.in_ok-chosen.ensures
    ∙ ap (map (is_wanted which)) (ap (map f) c.as_slice.ensures.value ∙ c.in_ok-first.ensures) in
    c.in_ok-append_part.ensures
    ∙ ap (λ (l : List Bool). c.args.out.now.items ++ interchange_part text x l) chosen_is
    ∙ ap (λ (t : List ℕ). c.args.out.now.items ++ t) (sym (part_by_sets which text x rows c.requires))
