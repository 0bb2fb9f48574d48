-- own: the files and the status that the program gives for the files that it reads.
use Rattle.std.specs.Prelude.{ℕ, ◌≡◌, ◌≤◌, List, length, map, Option, Some, None, option_and_then, if◌then◌else◌}
use Rattle.std.specs.Str.{is_utf8}
use Rattle.toml.specs.Data.{Members}
use Rattle.toml.specs.Parse.{parse_document}
use Rattle.night_definition.specs.Setup.{Setup}
use Rattle.night_definition.specs.Night.{Night}
use Rattle.night_definition.specs.GuideFile.{guide_of_table, all_of}
use Rattle.night_definition.specs.SetupFile.{setup_of_tables, night_files, is_clean}
use Rattle.night_definition.specs.ReadBack.{IsNight}

abbrev pub table_in : (bytes : List ℕ) → Option Members
table_in bytes = if is_utf8 bytes then parse_document bytes else None

-- the setup described by a setup file, a counters file and guide files
abbrev pub setup_of_files : (setup counters : List ℕ) → (guides : List (List ℕ)) → Option Setup
setup_of_files setup counters guides =
    option_and_then (λ gs. option_and_then (λ s. option_and_then (λ c. setup_of_tables s c gs) (table_in counters)) (table_in setup))
    (all_of (map (λ bytes. option_and_then guide_of_table (table_in bytes)) guides))

-- the files that a run leaves, and its status
pub record IsRun (setup_file counters_file : List ℕ) (guide_files : List (List ℕ)) (at text : List ℕ)
    (files : List (List ℕ × List ℕ)) (status : ℕ) : Type 0 where
  pub setup : Setup
  pub made : setup_of_files setup_file counters_file guide_files ≡ Some setup
  pub few : length text ≤ 4294967295
  pub night : Night
  pub is : IsNight text setup at night
  pub written : files ≡ night_files setup night
  pub told : status ≡ (if is_clean night.report then 0 else 1)
