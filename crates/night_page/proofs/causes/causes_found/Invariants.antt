use Rattle.std.proofs.Common.{◌≡◌, map, take}
use Rattle.std.specs.List.{filter_map}
use Rattle.csv.specs.Records.{fields_of}
use Rattle.night_page.specs.Causes.{cause_of}
use Rattle.night_page.specs.Names.{texts_of}
use Rattle.night_page.proofs.causes.causes_found.Given as goal

abbrev pub invariant-loop-i : goal.invariant-loop-i
invariant-loop-i l = texts_of l.found.items ≡ filter_map cause_of (map fields_of (take l.i l.rows))
