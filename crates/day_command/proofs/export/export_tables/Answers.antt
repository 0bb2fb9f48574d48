use Rattle.std.proofs.Common.{[], ◌∷◌, ◌++◌, List, arith}
use Rattle.std.specs.Borrow.{Bor}
use Rattle.night_marks.specs.declared.mark.NightMark.{NightMark}
use Rattle.track_read.specs.declared.night.NightTable.{NightTable}
use Rattle.day_command.specs.Tables.{IsTableAt}
use Rattle.day_command.proofs.Zips.{zip_map_more}
use Rattle.day_command.proofs.export.export_tables.Goals as goal

pub loop-i-init : goal.loop-i-init
loop-i-init g c = ([], tt, c.in_ok-all.ensures)

pub loop-i-preserved : goal.loop-i-preserved
loop-i-preserved g c =
    let order : List (Bor NightMark) = c.args.order.now in
    let mark : Bor NightMark → NightMark = λ n. n.now in
    let tables : List NightTable = c.loop-i.invariant.0 in (
      tables ++ c.in_ok-table.table ∷ [],
      zip_map_more mark (IsTableAt c.args.nights.now) order tables c.loop-i.i c.index-order-i.result c.in_ok-table.table (omega (arith))
          c.index-order-i.is c.loop-i.invariant.1 c.in_ok-table.ensures,
      c.in_ok-add_table.ensures tables c.loop-i.invariant.2,
    )
