-- A fault that is passed on.
use Rattle.std.proofs.Common.{◌≡◌, Result, Ok, Err, subst, sym}
use Rattle.std.specs.Result.{IfErr, IsErrAnd}

pub passed_on : {A E : Type 0} (r : Result A E) (e : E) (P : E → Type 0) → IsErrAnd r (λ f. f ≡ e) → P e → IfErr r P
passed_on (Ok x) e P same holds = tt
passed_on (Err f) e P same holds = subst P (sym same) holds
