use Rattle.std.proofs.Common.{◌≡◌, map, take}
use Rattle.csv.specs.Records.{fields_of}
use Rattle.night_search.specs.Lines.{sender}
use Rattle.night_page.specs.Names.{texts_of}
use Rattle.night_page.proofs.partners.senders_found.Given as goal

abbrev pub invariant-loop-i : goal.invariant-loop-i
invariant-loop-i l = texts_of l.found.items ≡ map sender (map fields_of (take l.i l.rows))
