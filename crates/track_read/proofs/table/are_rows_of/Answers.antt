use Rattle.std.proofs.Common.{◌≡◌, ◌∙◌, Bool, List, map, sym}
use Rattle.std.specs.List.{list_all}
use Rattle.std.proofs.lemmas.List.Folds.{list_all-map}
use Rattle.std.proofs.lemmas.Result.{IfOk-weaker}
use Rattle.csv.specs.Records.{fields_of}
use Rattle.csv.specs.declared.record.ByteRecord.{ByteRecord}
use Rattle.track_read.specs.Table.{is_wide}
use Rattle.track_read.proofs.table.are_rows_of.Goals as goal

-- rows that aren't wide, by what was found of them
wide_is : (rows : List ByteRecord) (b : Bool) → b ≡ list_all (λ row. is_wide (fields_of row)) rows
    → list_all is_wide (map fields_of rows) ≡ b
wide_is rows b is = list_all-map is_wide fields_of rows ∙ sym is

pub returns-then-not-are_wide : goal.returns-then-not-are_wide
returns-then-not-are_wide c =
    let narrow = wide_is c.args.rows.now c.are_wide.result c.are_wide.ensures ∙ c.if-not-are_wide.true in
    (λ no. absurd (cc), λ two. (let wide = two.0 in sym narrow ∙ wide))

pub returns : goal.returns
returns c =
    let wide = wide_is c.args.rows.now c.are_wide.result c.are_wide.ensures ∙ c.if-not-are_wide.false in
    IfOk-weaker c.is_text_of.result _ _ (λ are is. (λ yes. (wide, is.0 yes), λ two. is.1 two.1)) c.is_text_of.ensures
