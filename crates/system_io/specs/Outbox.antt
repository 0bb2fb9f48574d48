-- What an outbox is given (own): files with their bytes, in the order in which they are put there; and how often that failed.
use Rattle.std.specs.Prelude.{◌≡◌, ◌≢◌, ℕ, ◌+◌, ⊤, List, ◌∷◌, [], ◌++◌, Option, None, Some, Result, Ok, Err, MatchResult, codes}
use Rattle.std.specs.IoError.{error_kind}
use Rattle.std.specs.declared.io.Error.{Error}
use Rattle.std.specs.declared.io.ErrorKind.{ErrorKind}
use Rattle.std.specs.declared.io.ErrorKind.TheVariants.{OutOfMemory}

-- a name, and the bytes of the file
abbrev pub File : Type 0
File = List ℕ × List ℕ

-- known files stay as they were
abbrev pub KeepsFiles : Option (List File) → Option (List File) → Type 0
KeepsFiles None new = ⊤
KeepsFiles (Some xs) None = ⊥
KeepsFiles (Some xs) (Some ys) = ys ≡ xs

-- known files get these after them
abbrev pub AddsFiles : Option (List File) → Option (List File) → List File → Type 0
AddsFiles None new files = ⊤
AddsFiles (Some xs) None files = ⊥
AddsFiles (Some xs) (Some ys) files = ys ≡ xs ++ files

-- a file is added where it could be put, and otherwise nothing
abbrev pub PutsFile : {A E : Type 0} → Option (List File) → Option (List File) → Result A E → File → Type 0
PutsFile old new result file = MatchResult result (λ _. AddsFiles old new (file ∷ [])) (λ _. KeepsFiles old new)

-- the path of a file of this name in a folder
abbrev pub path_in : (folder name : List ℕ) → List ℕ
path_in folder name = folder ++ (codes "/" ++ name)

-- an error of this kind is counted; one out of memory isn't a fault of the outbox
pub record CountsError (kind : ErrorKind) (before after : ℕ) : Type 0 where
  pub memory : kind ≡ OutOfMemory → after ≡ before
  pub other : kind ≢ OutOfMemory → after ≡ before + 1

-- how often a put failed, before and after one more
abbrev pub CountsPut : {A : Type 0} → Result A Error → (before after : ℕ) → Type 0
CountsPut (Ok _) before after = after ≡ before
CountsPut (Err error) before after = CountsError (error_kind error) before after
