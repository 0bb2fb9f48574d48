-- The program's failures (own): the line that each prints, and the status that it ends with.
use Rattle.std.specs.Prelude.{ℕ, ◌≡◌, ◌≢◌, ◌==◌, ◌||◌, IsTrue, true, List, [], ◌∷◌, ◌++◌, Option, None, Some, IfSome, codes}
use Rattle.std.specs.declared.io.ErrorKind.{ErrorKind}
use Rattle.std.specs.declared.io.ErrorKind.TheVariants.{OutOfMemory}
use Rattle.ack_read.specs.Words.{IsRefused}
use Rattle.ack_read.specs.declared.fault.ReadFault.{ReadFault}
use Rattle.ack_read.specs.declared.fault.ReadFault.TheVariants as fault
use Rattle.night_definition.specs.Header.{is_head}
use Rattle.file_names.specs.Shown.{shown}
use Rattle.explain_command.specs.Ends.{cut_of, is_997, other_set}
use Rattle.explain_command.specs.declared.ends.CutOff.TheVariants as cut
use Rattle.explain_command.specs.declared.ends.SetId.{SetId}
use Rattle.explain_command.specs.declared.failure.Failure.{Failure}
use Rattle.explain_command.specs.declared.failure.Failure.TheVariants as failure

-- what failed, up to what the file has
abbrev pub lead_of : Failure → List ℕ
lead_of failure.Input = codes "input"
lead_of failure.NoHeader = codes "input 1"
lead_of failure.TellsNothing = codes "input 2"
lead_of (failure.OtherSet id) = codes "ST is "
lead_of failure.Is997 = codes "this is a 997, which is not read here"
lead_of (failure.CutOff cut.InSegment) = codes "the text ends inside a segment"
lead_of (failure.CutOff cut.In999) = codes "the text ends inside a 999"
lead_of failure.Memory = codes "memory"

abbrev pub other_words : SetId → List ℕ
other_words id = (id.first ∷ id.second ∷ id.third ∷ []) ++ codes ": this isn't an acknowledgment\n"

-- and what comes after it
abbrev pub rest_of : Failure → List ℕ
rest_of failure.Input = codes "\n"
rest_of failure.NoHeader = codes "\n"
rest_of failure.TellsNothing = codes "\n"
rest_of (failure.OtherSet id) = other_words id
rest_of failure.Is997 = codes "\n"
rest_of (failure.CutOff c) = codes "\n"
rest_of failure.Memory = codes "\n"

abbrev pub subject_line : Failure → List ℕ
subject_line f = lead_of f ++ rest_of f

-- the line on standard error
abbrev pub line_of : Failure → List ℕ
line_of f = codes "nighthub_explain: " ++ subject_line f

-- the line of one of several files
abbrev pub said_in : (path : List ℕ) → Failure → List ℕ
said_in path f = shown path ++ (codes ": " ++ subject_line f)

abbrev pub line_in : (path : List ℕ) → Failure → List ℕ
line_in path f = codes "nighthub_explain: " ++ said_in path f

-- a status: 0, 3 or 4, or that of a mistake or a failure of the system
abbrev pub IsStatus : ℕ → Type 0
IsStatus n = IsTrue (n == 0 || (n == 2 || (n == 3 || (n == 4 || (n == 5 || n == 6)))))

-- what a text fails by that isn't read as acknowledgments
abbrev pub read_failure : ReadFault → Failure
read_failure fault.NoHeader = failure.NoHeader
read_failure fault.TellsNothing = failure.TellsNothing
read_failure fault.NoMemory = failure.Memory

-- the line on a names file that is refused
abbrev pub names_line : (path text : List ℕ) → List ℕ
names_line path text = codes "nighthub_explain: " ++ (shown path ++ (codes ": " ++ (shown text ++ codes "\n")))

-- what a text that was read may fail by: it has bytes that are no acknowledgments, or memory is refused
abbrev pub IsOfText : (text : List ℕ) → Failure → Type 0
IsOfText text failure.NoHeader = (text ≢ []) × IsRefused text fault.NoHeader
IsOfText text failure.TellsNothing = IsRefused text fault.TellsNothing × (cut_of text ≡ None)
IsOfText text (failure.OtherSet id) = IsRefused text fault.TellsNothing × (cut_of text ≡ None) × (other_set text ≡ Some id)
IsOfText text failure.Is997 = (is_head text 0 ≡ true) × (is_997 text ≡ true)
IsOfText text failure.Memory = Unit {0}
IsOfText text _ = ⊥

-- what a reader may fail by, which declared these bytes of itself, or none: it can't be read, or just this text fails
abbrev pub IsOfInput : (declared : Option (List ℕ)) → Failure → Type 0
IsOfInput declared failure.Input = Unit {0}
IsOfInput declared failure.NoHeader = IfSome declared (λ text. IsOfText text failure.NoHeader)
IsOfInput declared failure.TellsNothing = IfSome declared (λ text. IsOfText text failure.TellsNothing)
IsOfInput declared (failure.OtherSet id) = IfSome declared (λ text. IsOfText text (failure.OtherSet id))
IsOfInput declared failure.Is997 = IfSome declared (λ text. IsOfText text failure.Is997)
IsOfInput declared (failure.CutOff cut) = ⊥
IsOfInput declared failure.Memory = Unit {0}

-- a fault of the system is out of memory, or represents another failure
pub record IsMemoryOr (kind : ErrorKind) (other failed : Failure) : Type 0 where
  pub memory : kind ≡ OutOfMemory → failed ≡ failure.Memory
  pub other_fault : kind ≢ OutOfMemory → failed ≡ other
