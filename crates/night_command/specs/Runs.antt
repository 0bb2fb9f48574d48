-- A run as the definition has it (own): of the files of a setup, a text and a moment; which files it leaves, and its status.
use Rattle.std.specs.Prelude.{ℕ, List, [], map}
use Rattle.std.specs.Option.{option_map_or}
use Rattle.night_definition.specs.Program.{IsRun}
use Rattle.night_command.specs.FileAt.{FileValue}
use Rattle.night_command.specs.Outbox.{File}
use Rattle.night_command.specs.declared.setup_files.SetupFiles.{SetupFiles}

-- the bytes of a file; those that make a setup can all be read
abbrev pub bytes_of : FileValue → List ℕ
bytes_of file = option_map_or (λ bytes. bytes) file.bytes []

-- the definition's run by a setup that these files describe
abbrev pub IsRunBy : SetupFiles → (at text : List ℕ) → (files : List File) → (status : ℕ) → Type 0
IsRunBy read at text files status = IsRun (bytes_of read.setup) (bytes_of read.counters) (map bytes_of read.guides) at text files status
