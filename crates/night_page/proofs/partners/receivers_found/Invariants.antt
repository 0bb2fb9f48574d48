use Rattle.std.proofs.Common.{◌≡◌, filter, map, take}
use Rattle.csv.specs.Records.{fields_of}
use Rattle.night_search.specs.Lines.{receiver}
use Rattle.night_page.specs.Rows.{is_delivered}
use Rattle.night_page.specs.Names.{texts_of}
use Rattle.night_page.proofs.partners.receivers_found.Given as goal

abbrev pub invariant-loop-i : goal.invariant-loop-i
invariant-loop-i l = texts_of l.found.items ≡ map receiver (filter is_delivered (map fields_of (take l.i l.rows)))
