use Rattle.std.proofs.Common.{List, map, take}
use Rattle.std.specs.List.{AllZip}
use Rattle.night_search.specs.Search.{IsSearch}
use Rattle.track_read.specs.declared.night.NightTable.{NightTable}
use Rattle.day_command.specs.Tables.{IsTableAt}
use Rattle.day_command.proofs.find.search_nights.Given as goal

abbrev pub invariant-loop-i : goal.invariant-loop-i
invariant-loop-i g l =
    (tables : List NightTable) × AllZip (IsTableAt l.nights) (map (λ n. n.now) (take l.i l.order)) tables
    × IsSearch l.text tables l.search
