use Rattle.std.proofs.Common.{◌≡◌, ◌∙◌, ◌++◌, List, ℕ, ap, map}
use Rattle.std.proofs.lemmas.Bool.Decides.{Decides-eqb}
use Rattle.std.proofs.lemmas.Option.{IfSome_then}
use Rattle.std.proofs.lemmas.Result.{IfOk-weaker}
use Rattle.std.proofs.lemmas.Slice.Eq.{strip_prefix_is}
use Rattle.csv.specs.Records.{fields_of}
use Rattle.csv_fields.specs.Csv.{table_text}
use Rattle.track_read.proofs.table.read_table.Goals as goal

pub returns-in-Some-clause-rows : goal.returns-in-Some-clause-rows
returns-in-Some-clause-rows c =
    let columns : List ℕ = c.column_line.result.now in
    let begins : c.args.bytes.now ≡ columns ++ c.in-Some.text.now =
    rw c.in-Some.is at (strip_prefix_is Decides-eqb c.args.bytes.now columns c.strip_prefix.result c.strip_prefix.ensures.cases) in
    IfOk-weaker c.rows_of.result _ _ (λ found some. IfSome_then found some (λ rows has. record {
      text = begins ∙ ap (λ (t : List ℕ). columns ++ t) has.records
          ∙ ap (λ (t : List ℕ). t ++ table_text (map fields_of rows.items)) c.column_line.ensures.names;
      width = has.width;
    })) c.rows_of.ensures.rows
