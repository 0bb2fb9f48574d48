use Rattle.std.proofs.Common.{map}
use Rattle.std.specs.List.{list_all}
use Rattle.std.proofs.lemmas.Bool.{and_parts}
use Rattle.std.proofs.lemmas.List.{append_cancel_left}
use Rattle.csv_fields.specs.Csv.{table_text}
use Rattle.night_record.specs.Tables.{address_columns, address_row, can_count}
use Rattle.night_record.proofs.Tabled.{address_wide, addresses_once, table_once}
use Rattle.night_record.proofs.laws.addresses_read_back.Goals as goal

pub returns : goal.returns
returns c list other can other_can same =
    addresses_once list other ((and_parts (list_all can_count list) _ can).0) ((and_parts (list_all can_count other) _ other_can).0)
    (table_once (map address_row list) (map address_row other) (address_wide list) (address_wide other)
    (append_cancel_left address_columns (table_text (map address_row list)) (table_text (map address_row other)) same))
