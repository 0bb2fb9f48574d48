-- A source of what was opened.
use Rattle.std.proofs.Common.{◌≡◌, ℕ, List, Option, Result, Ok, Err, IfOk, IsOkAnd, sym, subst}
use Rattle.std.specs.declared.fs.Metadata.{Metadata}
use Rattle.std.specs.declared.io.Error.{Error}
use Rattle.night_command.specs.Input.{IsInputOf, IsUnreadOf}
use Rattle.night_command.specs.declared.failure.Failure.{Failure}

pub unread_of : {F S E : Type 0} (declared : F → Option (List ℕ)) (remaining : S → Option (List ℕ)) (faults given : S → ℕ)
    (answer : Result F E) (said : Result (F × Metadata) Error) (result : Result S Failure) → IfOk said (λ s. answer ≡ Ok s.0)
    → IsInputOf said result → IfOk result (λ source. IfOk said (λ s. remaining source ≡ declared s.0))
    → IfOk result (λ source. faults source ≡ 0) → IfOk result (λ source. given source ≡ 0)
    → IfOk result (λ source. IsUnreadOf declared answer (remaining source) (faults source) (given source))
unread_of declared remaining faults given answer (Ok said) (Ok source) at limit whole none nothing =
    record { file = said.0; opened = at; whole = whole; none_failed = none; none_given = nothing }
unread_of declared remaining faults given answer (Err error) (Ok source) at limit whole none nothing = absurd limit
unread_of declared remaining faults given answer said (Err failed) at limit whole none nothing = tt

-- what holds of the bytes of a source holds of those of the file that it is
pub of_opened : {F E : Type 0} (declared : F → Option (List ℕ)) (answer : Result F E) (remaining : Option (List ℕ)) (faults given : ℕ)
    (P : Option (List ℕ) → Type 0) → IsUnreadOf declared answer remaining faults given → P remaining
    → IsOkAnd answer (λ file. P (declared file))
of_opened {F} {E} declared answer remaining faults given P unread is =
    subst (λ (a : Result F E). IsOkAnd a (λ file. P (declared file))) (sym unread.opened) (subst P unread.whole is)
