-- The results of gathering (own): what is printed, and the status.
use Rattle.std.specs.Prelude.{◌≡◌, ℕ, ◌==◌, ◌&&◌, List, ◌++◌, Option, Some, codes, map, if◌then◌else◌}
use Rattle.std.specs.Io.KnownBytes.{Appends}
use Rattle.clap.specs.Words.{Text}
use Rattle.program_frame.specs.Arguments.{value_in, values_in}
use Rattle.program_frame.specs.Matching.{AsksForText}
use Rattle.gather_command.specs.CommandLine.{IsJob, gather_app}
use Rattle.gather_command.specs.Members.{AreGathered, total_line}
use Rattle.gather_command.specs.declared.all.Gathering.{Gathering}
use Rattle.gather_command.specs.declared.command.Job.{Job}
use Rattle.gather_command.specs.declared.total.Total.{Total}

-- 0 where each file is taken whole
abbrev pub status_by : Total → ℕ
status_by total = if total.cut_off == 0 && total.set_aside == 0 then 0 else 1

-- the lines on the files at these paths, which were written one after another, and the total
pub record AreLines (paths : List (List ℕ)) (text : List ℕ) (total : Total) : Type 0 where
  pub was : Option (List ℕ)
  pub is : Option (List ℕ)
  pub lines : List ℕ
  pub gathered : AreGathered paths was is lines total
  pub text_is : text ≡ lines ++ total_line total

abbrev pub paths_of : Job → List (List ℕ)
paths_of job = map (λ f. f.now) job.files.items

-- what was made for a job
abbrev pub IsMade : Job → Gathering → Type 0
IsMade job g = AreLines (paths_of job) g.lines.items g.total

-- such lines were printed
pub record IsPrinted (paths : List (List ℕ)) (status : ℕ) (was is : Option (List ℕ)) : Type 0 where
  pub text : List ℕ
  pub total : Total
  pub lines : AreLines paths text total
  pub printed : Appends was is text
  pub status_is : status ≡ status_by total

-- what these arguments may have printed: a text where they ask for one, otherwise the lines on the files that they name
pub data IsOutcome (words : List Text) (status : ℕ) (was is : Option (List ℕ)) : Type 0 where
  Shown : (asked : AsksForText gather_app words) (text : List ℕ) → Appends was is text → status ≡ 0 → IsOutcome words status was is
  Made : (job : Job) → IsJob (value_in gather_app words) (values_in gather_app words) job → IsPrinted (paths_of job) status was is
      → IsOutcome words status was is

-- the arguments name a file to make
abbrev pub NamesOut : List Text → Type 0
NamesOut words = (out : List ℕ) × (value_in gather_app words (codes "out") ≡ Some out)
