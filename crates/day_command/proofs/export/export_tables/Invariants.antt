use Rattle.std.proofs.Common.{List, map, take}
use Rattle.std.specs.List.{AllZip}
use Rattle.day_command.specs.Export.{IsExport}
use Rattle.track_read.specs.declared.night.NightTable.{NightTable}
use Rattle.day_command.specs.Tables.{IsTableAt}
use Rattle.day_command.proofs.export.export_tables.Given as goal

abbrev pub invariant-loop-i : goal.invariant-loop-i
invariant-loop-i g l =
    (tables : List NightTable) × AllZip (IsTableAt l.nights) (map (λ n. n.now) (take l.i l.order)) tables
    × IsExport l.form tables l.all
