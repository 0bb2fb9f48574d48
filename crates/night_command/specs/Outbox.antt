-- What an outbox is given (own): files with their bytes, in the order in which they are put there; and how often that failed.
use Rattle.std.specs.Prelude.{◌≡◌, ◌≢◌, ℕ, ◌+◌, ⊤, List, ◌∷◌, ◌++◌, Option}
use Rattle.std.specs.List.{flat_map}
use Rattle.std.specs.declared.io.ErrorKind.{ErrorKind}
use Rattle.std.specs.declared.io.ErrorKind.TheVariants.{OutOfMemory}
use Rattle.night_command.specs.declared.outbox.NamedText.{NamedText}
use Rattle.night_command.specs.declared.put_fault.PutFault.{PutFault}
use Rattle.night_command.specs.declared.put_fault.PutFault.TheVariants.{NoMemory, Output}
pub use Rattle.system_io.specs.Outbox.{AddsFiles, File, KeepsFiles, PutsFile}

abbrev pub file_of : NamedText → File
file_of text = (text.name, flat_map (λ part. part) text.parts.items)

-- the first of the files that are left couldn't be put; or memory was refused
abbrev pub IsAtFile : List File → PutFault → Type 0
IsAtFile left NoMemory = ⊤
IsAtFile left (Output name) = (file : File) × (more : List File) × (left ≡ file ∷ more) × (name ≡ file.0)

-- a fault when some of the files, from the front, had been put
pub record AddsSome (old new : Option (List File)) (files : List File) (fault : PutFault) : Type 0 where
  pub done : List File
  pub left : List File
  pub whole : files ≡ done ++ left
  pub added : AddsFiles old new done
  pub at : IsAtFile left fault

-- why the file of this name wasn't put, by the kind of the error
abbrev pub IsFaultOf : ErrorKind → (name : List ℕ) → PutFault → Type 0
IsFaultOf kind name NoMemory = kind ≡ OutOfMemory
IsFaultOf kind name (Output failed) = (kind ≢ OutOfMemory) × (failed ≡ name)

-- a file is named exactly where a put failed
abbrev pub IsPutFault : (before after : ℕ) → PutFault → Type 0
IsPutFault before after (Output name) = after ≡ before + 1
IsPutFault before after NoMemory = after ≡ before

abbrev pub put_fault_number : PutFault → ℕ
put_fault_number (Output name) = 1
put_fault_number NoMemory = 2
