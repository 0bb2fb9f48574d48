use Rattle.std.proofs.Common.{◌≡◌, List, map, subst, rules}
use Rattle.std.specs.List.{list_all}
use Rattle.csv.specs.Records.{fields_of}
use Rattle.hub_ledger.specs.declared.entry.AddressNumbers.{AddressNumbers}
use Rattle.night_entries.specs.Keys.{receiver_named}
use Rattle.night_entries.specs.ReadFault.{IsTrackFault}
use Rattle.night_entries.specs.Good.{is_row}
use Rattle.night_entries.specs.Refused.{IsEntryFault}
use Rattle.night_entries.specs.Rows.{address_rows}
use Rattle.night_entries.proofs.BadRows.{track_fails}
use Rattle.night_entries.proofs.Reading.{same_fault}
use Rattle.night_entries.proofs.entry.entry_of.Goals as goal

pub returns-in_err-delivered-clause-refused : goal.returns-in_err-delivered-clause-refused
returns-in_err-delivered-clause-refused c =
    let papers = c.args.papers.now in
    let setup = c.in_ok-setup.setup in
    let begun = c.in_ok-begun.begun in
    let left = c.in_ok-left.left in
    let e = c.in_err-delivered.field-0.0 in
    let table = map fields_of c.in_ok-table.table.items in
    let rows : c.as_slice-4.result.now ≡ address_rows begun left setup.partners = search rules in
    same_fault c.from_residual-in_err-delivered.result e (IsEntryFault papers) c.from_residual-in_err-delivered.ensures.1
    (track_fails papers setup begun left table c.in_ok-setup.ensures.rows c.in_ok-begun.ensures.rows c.in_ok-left.ensures.rows
    c.in_ok-table.ensures.records e
    (subst (λ (rs : List AddressNumbers). IsTrackFault (list_all (is_row papers.input.now (receiver_named rs)) table) e) rows
    (subst (λ rs. IsTrackFault (list_all (is_row papers.input.now (receiver_named c.as_slice-4.result.now)) (map fields_of rs)) e)
    c.as_slice-5.ensures.value c.in_err-delivered.ensures.refused)))
