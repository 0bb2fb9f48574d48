-- The names file at a path (own): what was read there, and the words that it writes.
use Rattle.std.specs.Prelude.{◌≡◌, ℕ, List, Option, None, Some}
use Rattle.check_command.specs.Files.{path_of}
use Rattle.check_command.specs.declared.files.Given.{Given}
use Rattle.guide_names.specs.Names.{Words, no_words}
use Rattle.names_file.specs.Refused.{IsNamesRefused, IsTaken}
use Rattle.names_file.specs.declared.judge.JudgedNames.{JudgedNames}
use Rattle.names_file.specs.declared.judge.JudgedNames.TheVariants as judged

-- the file that was read at a path writes these words
pub record AreRead (path : List ℕ) (words : Words) : Type 0 where
  pub file : Given
  pub at : path_of file ≡ path
  pub written : IsTaken file.bytes words

-- the file that was read at a path, or couldn't be read, is refused as a names file in these words
pub record AreRefused (path text : List ℕ) : Type 0 where
  pub file : Given
  pub at : path_of file ≡ path
  pub refused : IsNamesRefused file.bytes text

-- what was read at the path of a names file
abbrev pub AreJudged : (path : List ℕ) → JudgedNames → Type 0
AreJudged path (judged.Taken words) = AreRead path words
AreJudged path (judged.Refused text) = AreRefused path text

-- the words for a guide; without a names file there are none
abbrev pub AreWords : (names : Option (List ℕ)) → Words → Type 0
AreWords None words = words ≡ no_words
AreWords (Some path) words = AreRead path words
