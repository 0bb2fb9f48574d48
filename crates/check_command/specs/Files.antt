-- The check (own): the files that are given, the guides in their order, then the setup, then the counters; and the bytes of each.
use Rattle.std.specs.Prelude.{◌≡◌, ◌≢◌, ⊤, ℕ, List, [], ◌∷◌, ◌++◌, map, Option, Some, None, option_map, Result, Ok, IsErr, IfSome}
use Rattle.std.specs.declared.io.ErrorKind.{ErrorKind}
use Rattle.std.specs.declared.io.ErrorKind.TheVariants.{OutOfMemory}
use Rattle.check_command.specs.declared.command.Options.{Options}
use Rattle.check_command.specs.declared.files.Given.{Given}
use Rattle.check_command.specs.declared.files.GivenFiles.{GivenFiles}
use Rattle.check_command.specs.declared.told.FileTold.{FileTold}

abbrev pub path_of : Given → List ℕ
path_of given = given.path.now

abbrev pub listed : {A : Type 0} → Option A → List A
listed None = []
listed (Some x) = x ∷ []

abbrev pub in_order : {A : Type 0} → (guides : List A) → (setup counters : Option A) → List A
in_order guides setup counters = guides ++ (listed setup ++ listed counters)

abbrev pub paths_of : GivenFiles → List (List ℕ)
paths_of given = in_order (map path_of given.guides) (option_map path_of given.setup) (option_map path_of given.counters)

abbrev pub paths_in : Options → List (List ℕ)
paths_in options =
    in_order (map (λ p. p.now) options.guides.items) (option_map (λ p. p.now) options.setup) (option_map (λ p. p.now) options.counters)

-- the paths of what is reported
abbrev pub paths_told : List FileTold → List (List ℕ)
paths_told told = map (λ (f : FileTold). f.path.now) told

-- the bytes that are judged are all that the opened file declared, if it declares them; a file that can't be read has none
abbrev pub AreBytesOf : (declared bytes : Option (List ℕ)) → Type 0
AreBytesOf declared None = ⊤
AreBytesOf declared (Some bytes) = IfSome declared (λ all. bytes ≡ all)

-- an error of this kind is out of memory, or leaves a file without bytes
pub record IsMissing {A E : Type 0} (kind : ErrorKind) (result : Result (Option A) E) : Type 0 where
  pub memory : kind ≡ OutOfMemory → IsErr result
  pub other_fault : kind ≢ OutOfMemory → result ≡ Ok None
