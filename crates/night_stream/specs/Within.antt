-- X12.6, transaction set: a set that is in its text.
use Rattle.std.specs.Prelude.{◌≤◌, length}
use Rattle.answered_sets.specs.Judged.{PlacedValue}

abbrev pub IsWithinText : PlacedValue → Type 0
IsWithinText p = p.set.end ≤ length p.interchange.text
