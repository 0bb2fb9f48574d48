-- Where the folder of a night is (own): that of nights which are archived as one is beside the others.
use Rattle.std.specs.Prelude.{ℕ, List, codes, if◌then◌else◌}
use Rattle.system_io.specs.Outbox.{path_in}
use Rattle.night_marks.specs.declared.mark.NightMark.{NightMark}

-- the folder of archived nights, in that of the nights; its name begins with a dot, so no night has it
abbrev pub archive_of : (nights : List ℕ) → List ℕ
archive_of nights = path_in nights (codes ".archived/nights")

-- the folder in which that of a night is
abbrev pub home_of : (nights : List ℕ) → NightMark → List ℕ
home_of nights mark = if mark.is_archived then archive_of nights else nights
