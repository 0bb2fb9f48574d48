use Rattle.toml.specs.View.{table_view}
use Rattle.check_command.proofs.Reading.{table_is}
use Rattle.check_command.proofs.judged.table_of.Goals as goal

pub returns-in-Ok-table_from_str : goal.returns-in-Ok-table_from_str
returns-in-Ok-table_from_str c =
    table_is c.args.bytes.now c.in-Ok.text.now (table_view c.in-Ok-table_from_str.table) c.in-Ok.ensures.cases.0 c.in-Ok.ensures.cases.1
    c.in-Ok-table_from_str.ensures.ok
