-- What a night is made of and what it gives, as files of its folder (own), and what is kept of it.
use Rattle.std.specs.Prelude.{◌≡◌, ℕ, ◌-◌, List, [], ◌∷◌, ◌++◌, codes, length, map, nat_lt, slice_get}
use Rattle.std.specs.Prelude.{if◌then◌else◌}
use Rattle.std.specs.List.{flat_map}
use Rattle.hub_ledger.specs.declared.entry.NightEntry.{NightEntry}
use Rattle.kept_files.specs.Files.{bytes_or_none, file}
use Rattle.kept_files.specs.Sums.{sum_text}
use Rattle.night_entries.specs.Entry.{IsEntry}
use Rattle.night_entries.specs.Files.{sum_line}
use Rattle.night_entries.specs.declared.entry.Papers.{Papers}
use Rattle.night_entries.specs.declared.files.NamedSum.{NamedSum}
use Rattle.night_shelf.specs.declared.night.NightFile.{NightFile}
use Rattle.hub_night.specs.declared.entry.NightBytes.{NightBytes}
use Rattle.hub_tonight.specs.declared.night.Tonight.{Tonight}

abbrev pub guide_name : (name : List ℕ) → List ℕ
guide_name name = codes "from/guides/" ++ name

-- a guide in the folder of a night
abbrev pub guide_file : NightFile → NightFile
guide_file guide = file (guide_name guide.name) guide.bytes

-- the sum of the program, and the files of what came in: `listing` is the list of the files of the day, `again` the table of the sets that
-- are asked for again, `input` what goes in of the files. The input is the last file, as `AreKeptFiles` wants it
abbrev pub came_files : (listing again input program : List ℕ) → List NightFile
came_files listing again input program =
    file (codes "from/program.sum") program ∷ file (codes "from/files.sum") listing ∷ file (codes "from/again.csv") again
    ∷ file (codes "from/in.x12") input ∷ []

-- the files that a night is made of
abbrev pub made_files : (setup : List ℕ) → (guides : List NightFile) → (counters : List ℕ) → (came : List NightFile) → List NightFile
made_files setup guides counters came =
    file (codes "from/setup.toml") setup ∷ (map guide_file guides ++ file (codes "from/counters.toml") counters ∷ came)

-- the files that it gives, of which its sums are
abbrev pub given_files : Tonight → List NightFile
given_files tonight = tonight.out ++ file (codes "total") tonight.total ∷ []

-- its tables
abbrev pub table_files : (track taken addresses : List ℕ) → List NightFile
table_files track taken addresses =
    file (codes "track.csv") track ∷ file (codes "taken.csv") taken ∷ file (codes "addresses.csv") addresses ∷ []

abbrev pub named_sum : NightFile → NamedSum
named_sum file = record { name = file.name; sum = sum_text file.bytes }

-- the counters that it leaves: the last file of the run, before the total
abbrev pub last_but_one : List NightFile → List ℕ
last_but_one files = if nat_lt (length files) 2 then [] else bytes_or_none (slice_get files (length files - 2))

-- the bytes of a night's files, as a later night reads them in its folder
pub record ArePapersIn (night : NightBytes) (papers : Papers) : Type 0 where
  pub name_is : papers.name.now ≡ night.name.now
  pub moment_is : papers.moment.now ≡ night.at.now
  pub setup_is : papers.setup.now ≡ night.setup.now
  pub counters_are : papers.counters.now ≡ night.counters.now
  pub next_counters_are : papers.next_counters.now ≡ last_but_one night.given.now
  pub sums_are : papers.sums.now ≡ flat_map sum_line (map named_sum night.given.now)
  pub input_is : papers.input.now ≡ night.input.now
  pub track_is : papers.track.now ≡ night.track.now
  pub again_is : papers.again.now ≡ night.again.now
  pub found_are : papers.found.now ≡ map named_sum night.given.now

-- what is kept of a night by these bytes
pub record IsEntryIn (night : NightBytes) (entry : NightEntry) : Type 0 where
  pub papers : Papers
  pub papers_are : ArePapersIn night papers
  pub entry_is : IsEntry papers entry
