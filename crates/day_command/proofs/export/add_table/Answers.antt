use Rattle.std.proofs.Common.{rules}
use Rattle.day_command.proofs.Exporting.{exported_more}
use Rattle.day_command.proofs.export.add_table.Goals as goal

pub returns : goal.returns
returns c =
    exported_more c.args.form c.args.all.now _ c.args.table.now c.is_read-is_read.result
    (rw (c.as_slice.ensures, c.rows-rows.ensures) at c.in_ok-append_rows.ensures) c.in_ok-append_unread.ensures c.is_read-is_read.ensures
    (search rules)
