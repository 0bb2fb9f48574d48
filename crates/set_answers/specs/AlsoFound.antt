-- Findings that come after others (own). Private.
use Rattle.std.specs.Prelude.{List, ◌++◌}
use Rattle.std.specs.List.{AllZip}
use Rattle.set_answers.specs.Asked.{Asked, IsFound}
use Rattle.set_check.specs.declared.finding.Finding.{Finding}

-- whatever was asked and found out before, this was found out after it
abbrev pub AreAlsoFound : List Asked → (old new : List Finding) → Type 0
AreAlsoFound more old new = (asked : List Asked) → AllZip IsFound asked old → AllZip IsFound (asked ++ more) new
