-- What is reported of a file that was opened is what explaining it gave.
use Rattle.std.proofs.Common.{false, true, ◌≡◌, ◌⊎◌, inl, inr, ℕ, List, Option, None, Result, Ok, Err, refl, subst, sym, ◌∙◌}
use Rattle.std.specs.Prelude.{IfErr, IfOk, IsErr, IsOkAnd}
use Rattle.guide_names.specs.Names.{Words}
use Rattle.explain_command.specs.Failure.{IsOfInput}
use Rattle.explain_command.specs.Outcome.{IsExplanationOf}
use Rattle.explain_command.specs.Reports.{IsReported, IsTold}
use Rattle.explain_command.specs.declared.explain.Account.{Account}
use Rattle.explain_command.specs.declared.failure.Failure.{Failure}
use Rattle.explain_command.specs.declared.failure.Failure.TheVariants as failure
use Rattle.explain_command.specs.declared.files.Told.{Told}
use Rattle.explain_command.specs.declared.files.Told.TheVariants as told

none : {E : Type 0} (result : Result Told E) (P : Told → Type 0) → IsErr result → IfOk result P
none (Ok t) P is = (let no : false ≡ true = is in cc)
none (Err e) P is = tt

so : {E : Type 0} (result : Result Told E) (P : Told → Type 0) (t : Told) → result ≡ Ok t → P t → IfOk result P
so result P t is holds = subst (λ r. IfOk r P) (sym is) holds

-- a refusal words is reported, or memory was refused
refusal : {E : Type 0} (words : Words) (declared : Option (List ℕ)) (f : Failure) (result : Result Told E) → IsOfInput declared f
    → IsReported (Err f) result → IfOk result (IsTold words declared)
refusal words declared failure.Input result of by = so result (IsTold words declared) (told.Refused failure.Input) (by.1 (λ e. cc)) (
  of,
  (λ e. cc),
)
refusal words declared failure.NoHeader result of by =
    so result (IsTold words declared) (told.Refused failure.NoHeader) (by.1 (λ e. cc)) (of, (λ e. cc))
refusal words declared failure.TellsNothing result of by =
    so result (IsTold words declared) (told.Refused failure.TellsNothing) (by.1 (λ e. cc)) (of, (λ e. cc))
refusal words declared (failure.OtherSet id) result of by =
    so result (IsTold words declared) (told.Refused (failure.OtherSet id)) (by.1 (λ e. cc)) (of, (λ e. cc))
refusal words declared failure.Is997 result of by =
    so result (IsTold words declared) (told.Refused failure.Is997) (by.1 (λ e. cc)) (of, (λ e. cc))
refusal words declared (failure.CutOff cut) result of by = absurd of
refusal words declared failure.Memory result of by = none result (IsTold words declared) (by.0 refl)

pub told_of : {A E F : Type 0} (words : Words) (opened : Result A F) (declared : A → Option (List ℕ)) (account : Result Account Failure)
    (result : Result Told E)
    → IfOk account (λ (a : Account). IsOkAnd opened (λ input. IsExplanationOf words (declared input) a.lines.items a.cut))
    → IfOk opened (λ input. IfErr account (IsOfInput (declared input)))
    → IsReported account result → IfOk opened (λ input. IfOk result (IsTold words (declared input)))
told_of words (Err e) declared account result lines refused by = tt
told_of words (Ok input) declared (Ok a) result lines refused by = so result (IsTold words (declared input)) (told.Explained a) by lines
told_of words (Ok input) declared (Err f) result lines refused by = refusal words (declared input) f result refused by

input : {E : Type 0} (f : Failure) (result : Result Told E) → (f ≡ failure.Memory) ⊎ (f ≡ failure.Input) → IsReported (Err f) result
    → IfOk result (λ t. t ≡ told.Refused failure.Input)
input f result (inl memory) by = none result (λ t. t ≡ told.Refused failure.Input) (by.0 memory)
input f result (inr is) by =
    so result (λ t. t ≡ told.Refused failure.Input) (told.Refused f)
    (by.1 (λ e. (let no : failure.Input ≡ failure.Memory = sym is ∙ e in cc)))
    (subst (λ (x : Failure). told.Refused x ≡ told.Refused failure.Input) (sym is) refl)

pub told_closed : {A E F : Type 0} (words : Words) (opened : Result A F) (declared : A → Option (List ℕ)) (account : Result Account Failure)
    (result : Result Told E)
    → IfOk account (λ (a : Account). IsOkAnd opened (λ input. IsExplanationOf words (declared input) a.lines.items a.cut))
    → IfErr opened (λ _. IfErr account (λ f. (f ≡ failure.Memory) ⊎ (f ≡ failure.Input)))
    → IsReported account result → IfErr opened (λ _. IfOk result (λ t. t ≡ told.Refused failure.Input))
told_closed words (Ok i) declared account result lines either by = tt
told_closed words (Err e) declared (Ok a) result lines either by = absurd lines
told_closed words (Err e) declared (Err f) result lines either by = input f result either by

-- what is reported of a file that declared its bytes is reported of one that declared nothing
untold : (words : Words) (declared : Option (List ℕ)) (t : Told) → IsTold words declared t → IsTold words None t
untold words declared (told.Explained a) by = record { text = by.text; told_all = tt; said = by.said }
untold words declared (told.Refused f) by = (unrefused f by.0, by.1)
  where
    unrefused : (f : Failure) → IsOfInput declared f → IsOfInput None f
    unrefused failure.Input of = tt
    unrefused failure.NoHeader of = tt
    unrefused failure.TellsNothing of = tt
    unrefused (failure.OtherSet id) of = tt
    unrefused failure.Is997 of = tt
    unrefused (failure.CutOff cut) of = of
    unrefused failure.Memory of = tt

pub told_at : {A F : Type 0} (words : Words) (opened : Result A F) (declared : A → Option (List ℕ)) (t : Told)
    → IfOk opened (λ input. IsTold words (declared input) t) → IfErr opened (λ _. t ≡ told.Refused failure.Input) → IsTold words None t
told_at words (Ok i) declared t by closed = untold words (declared i) t by
told_at words (Err e) declared t by closed = subst (λ (x : Told). IsTold words None x) (sym closed) (tt, (λ e. cc))
