-- The bytes of a file that was opened are all that it declared.
use Rattle.std.proofs.Common.{◌≡◌, ℕ, List, Vec, Option, None, Some, Result, Ok, Err, sym, subst}
use Rattle.std.specs.Prelude.{IfErr, IfOk, IfSome, IsErrOf}
use Rattle.std.specs.declared.alloc.Global.{Global}
use Rattle.std.specs.declared.io.Error.{Error}
use Rattle.hub_kinds.specs.declared.memory.NoMemory.{NoMemory}
use Rattle.check_command.specs.Files.{AreBytesOf}

bytes_of : (declared : Option (List ℕ)) (text : List ℕ) (bytes : Option (List ℕ)) → IfSome declared (λ all. text ≡ all)
    → (let o : Result (Option (List ℕ)) NoMemory = Ok bytes in o) ≡ Ok (Some text) → AreBytesOf declared bytes
bytes_of declared text bytes all is =
    let same : Some text ≡ bytes = cc in
    subst (λ (b : Option (List ℕ)). AreBytesOf declared b) same all

pub given : {A : Type 0} (opened : Result A Error) (declared : A → Option (List ℕ)) (read : Result (Vec ℕ Global) Error)
    (bytes : Option (List ℕ)) → IfOk opened (λ input. IfOk read (λ text. IfSome (declared input) (λ all. text.items ≡ all)))
    → IfOk read (λ text. (let o : Result (Option (List ℕ)) NoMemory = Ok bytes in o) ≡ Ok (Some text.items))
    → IfErr read (λ _. bytes ≡ None)
    → IfOk opened (λ input. AreBytesOf (declared input) bytes)
given (Err e) declared read bytes all some none = tt
given (Ok input) declared (Ok text) bytes all some none = bytes_of (declared input) text.items bytes all some
given (Ok input) declared (Err e) bytes all some none =
    subst (λ (b : Option (List ℕ)). AreBytesOf (declared input) b) (sym none) tt

pub closed : {A : Type 0} (opened : Result A Error) (read : Result (Vec ℕ Global) Error) (bytes : Option (List ℕ))
    → IfErr opened (λ error. IsErrOf read error) → IfErr read (λ _. bytes ≡ None) → IfErr opened (λ _. bytes ≡ None)
closed (Ok input) read bytes is none = tt
closed (Err e) (Ok text) bytes is none = (let no : Ok text ≡ Err e = is in cc)
closed (Err e) (Err f) bytes is none = none
