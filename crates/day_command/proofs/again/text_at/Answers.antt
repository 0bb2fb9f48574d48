use Rattle.std.proofs.Common.{ℕ, List, ◌∙◌, ap, map, subst, sym}
use Rattle.std.specs.Borrow.{Bor}
use Rattle.std.specs.Prelude.{IfSome, option_map}
use Rattle.csv.specs.Records.{fields_of}
use Rattle.csv.specs.declared.record.ByteRecord.{ByteRecord}
use Rattle.sets_again.specs.Again.{IsAgain}
use Rattle.track_read.specs.Table.{IsTable}
use Rattle.day_command.proofs.again.text_at.Goals as goal

pub returns-clause-again : goal.returns-clause-again
returns-clause-again g c =
    let bytes : List ℕ = c.in-Some.text.now in
    let table : List ℕ = c.in-Some-bytes.bytes.now in
    let text : List ℕ = c.in_ok-sets_again.field-0.items in
    record {
      input = c.in_ok-input.input;
      input_is = c.in_ok-input.ensures;
      bytes = bytes;
      bytes_are = sym c.bytes.ensures ∙ ap (option_map (λ (b : Bor (List ℕ)). b.now)) c.in-Some.is;
      table = c.in_ok-table.table;
      table_is = c.in_ok-table.ensures;
      table_bytes = table;
      table_bytes_are = sym c.bytes-2.ensures ∙ ap (option_map (λ (b : Bor (List ℕ)). b.now)) c.in-Some-bytes.is;
      rows = map fields_of c.in-Some-2.rows.items;
      rows_are = subst (λ found. IfSome found (λ rows. IsTable table (map fields_of rows.items))) c.in-Some-2.is
          c.in_ok-rows.ensures.rows;
      again = subst (λ (l : List ByteRecord). IsAgain c.args.wanted bytes (map fields_of l) text) c.as_slice.ensures.value
          c.in_ok-sets_again.ensures.again;
    }
