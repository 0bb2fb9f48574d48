use Rattle.std.proofs.Common.{◌≡◌, ◌++◌, ◌≤◌, ◌-◌, List, ℕ, map, length, refl, ap, sym, arith, ◌∙◌}
use Rattle.elem_rules.specs.declared.flat_row.FlatKind.TheVariants as kind
use Rattle.elem_rules.specs.declared.flat_row.FlatKind.{FlatKind}
use Rattle.elem_rules.specs.declared.flat_row.FlatRow.{FlatRow}
use Rattle.elem_rules.specs.Flat.{code_number, is_sure_by}
use Rattle.elem_rules.proofs.FlatRows.{grown_none, sure_typed, sure_listed, length_numbers}
use Rattle.elem_rules.proofs.Looks.{on_true}
use Rattle.elem_rules.proofs.flat_row.flat_of.Goals as goal

pub returns-in_default-clause-flat : goal.returns-in_default-clause-flat
returns-in_default-clause-flat c more text narrow h =
    let row = c.args.row.now in
    let flat : FlatRow = record { least = row.min; span = row.max - row.min; from = 0; count = 0; kind = c.kind_of.result } in
    let order : row.min ≤ row.max = omega (arith, c.if-row.false) in
    sure_typed row.data_type flat row (c.args.numbers.now.items ++ more) text refl c.in_default.is refl refl order narrow
    (sym (ap (λ (k : FlatKind). is_sure_by k flat (c.args.numbers.now.items ++ more) text) c.kind_of.ensures) ∙ h)

pub returns-in_default-clause-grown : goal.returns-in_default-clause-grown
returns-in_default-clause-grown c = grown_none c.args.numbers.now.items

pub returns-clause-grown : goal.returns-clause-grown
returns-clause-grown c = (map code_number c.as_slice-codes.result.now, c.in_ok-push_numbers.ensures)

pub returns-clause-flat : goal.returns-clause-flat
returns-clause-flat c more text narrow h =
    let row = c.args.row.now in
    let codes = c.as_slice-codes.result.now in
    let old = c.args.numbers.now.items in
    let flat : FlatRow =
    record { least = row.min; span = row.max - row.min; from = c.len-from.result; count = length codes; kind = kind.Listed } in
    let order : row.min ≤ row.max = omega (arith, c.if-row.false) in
    let are : c.push_numbers.new.numbers.items ≡ old ++ map code_number c.in-Some.listed.used =
    c.in_ok-push_numbers.ensures ∙ ap (λ (cs : List (List ℕ)). old ++ map code_number cs) c.as_slice-codes.ensures in
    let count : length codes ≡ length (map code_number c.in-Some.listed.used) =
    ap (λ (cs : List (List ℕ)). length cs) c.as_slice-codes.ensures ∙ length_numbers c.in-Some.listed.used in
    let from : c.len-from.result ≡ length old = c.len-from.ensures ∙ c.args.numbers.now.ok.0 in
    sure_listed flat row c.in-Some.listed old more text c.in-Some.is
    (on_true c.is_string.result c.if-not-is_string.false c.is_string.ensures) from count refl refl order narrow
    (sym (ap (λ (l : List ℕ). is_sure_by kind.Listed flat (l ++ more) text) are) ∙ h)
