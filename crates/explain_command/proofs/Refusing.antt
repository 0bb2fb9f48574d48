-- What a reader gives is explained, or refused, as its text is.
use Rattle.std.proofs.Common.{◌≡◌, ◌⊎◌, inl, inr, ℕ, List, Vec, Option, None, Some, Result, Ok, Err, true, false, refl, subst, sym}
use Rattle.std.specs.Prelude.{◌≢◌, IfErr, IfOk, IfSome, IsErrAnd, IsOkAnd, is_some}
use Rattle.std.specs.declared.alloc.Global.{Global}
use Rattle.std.specs.declared.io.Error.{Error}
use Rattle.guide_names.specs.Names.{Words}
use Rattle.explain_command.specs.Failure.{IsOfInput, IsOfText}
use Rattle.explain_command.specs.Outcome.{IsExplanationOf, IsSaidOf}
use Rattle.explain_command.specs.declared.ends.CutOff.{CutOff}
use Rattle.explain_command.specs.declared.explain.Account.{Account}
use Rattle.explain_command.specs.declared.failure.Failure.{Failure}
use Rattle.explain_command.specs.declared.failure.Failure.TheVariants as failure

of_reader : (declared : Option (List ℕ)) (text : List ℕ) (failed : Failure) → IfSome declared (λ xs. text ≡ xs)
    → IsOfText text failed → IsOfInput declared failed
of_reader None text failure.Input same by = tt
of_reader None text failure.NoHeader same by = tt
of_reader None text failure.TellsNothing same by = tt
of_reader None text (failure.OtherSet id) same by = tt
of_reader None text failure.Is997 same by = tt
of_reader None text (failure.CutOff cut) same by = by
of_reader None text failure.Memory same by = tt
of_reader (Some xs) text failure.Input same by = tt
of_reader (Some xs) text failure.NoHeader same by = subst (λ (t : List ℕ). IsOfText t failure.NoHeader) same by
of_reader (Some xs) text failure.TellsNothing same by = subst (λ (t : List ℕ). IsOfText t failure.TellsNothing) same by
of_reader (Some xs) text (failure.OtherSet id) same by = subst (λ (t : List ℕ). IsOfText t (failure.OtherSet id)) same by
of_reader (Some xs) text failure.Is997 same by = subst (λ (t : List ℕ). IsOfText t failure.Is997) same by
of_reader (Some xs) text (failure.CutOff cut) same by = by
of_reader (Some xs) text failure.Memory same by = tt

-- out of memory says nothing of a text
pub of_memory : {A : Type 0} (result : Result A Failure) (text : List ℕ) → IsErrAnd result (λ f. f ≡ failure.Memory)
    → IfErr result (IsOfText text)
of_memory (Ok a) text memory = tt
of_memory (Err f) text memory = subst (λ (g : Failure). IsOfText text g) (sym memory) tt

pub is_cut : (cut : Option CutOff) → is_some cut ≡ true → cut ≢ None
is_cut None some = (let no : false ≡ true = some in cc)
is_cut (Some c) some = λ e. cc

pub is_whole : (cut : Option CutOff) → is_some cut ≡ false → cut ≡ None
is_whole None none = refl
is_whole (Some c) none = (let no : true ≡ false = none in cc)

unread : (declared : Option (List ℕ)) (failed : Failure) → (failed ≡ failure.Memory) ⊎ (failed ≡ failure.Input)
    → IsOfInput declared failed
unread declared failed (inl memory) = subst (λ (f : Failure). IsOfInput declared f) (sym memory) tt
unread declared failed (inr input) = subst (λ (f : Failure). IsOfInput declared f) (sym input) tt

pub said : (words : Words) (read : Result (Vec ℕ Global) Error) (declared : Option (List ℕ)) (result : Result Account Failure)
    → IfOk result (λ (a : Account). IsOkAnd read (λ text. IsSaidOf words text.items a.lines.items a.cut))
    → IfOk read (λ text. IfSome declared (λ xs. text.items ≡ xs))
    → IfOk result (λ (a : Account). IsExplanationOf words declared a.lines.items a.cut)
said words (Ok text) declared (Ok a) by all = record { text = text.items; told_all = all; said = by }
said words (Ok text) declared (Err f) by all = tt
said words (Err e) declared (Ok a) by all = absurd by
said words (Err e) declared (Err f) by all = tt

pub refused : (read : Result (Vec ℕ Global) Error) (declared : Option (List ℕ)) (result : Result Account Failure)
    → IfOk read (λ text. IfErr result (IsOfText text.items))
    → IfErr read (λ _. IfErr result (λ f. (f ≡ failure.Memory) ⊎ (f ≡ failure.Input)))
    → IfOk read (λ text. IfSome declared (λ xs. text.items ≡ xs))
    → IfErr result (IsOfInput declared)
refused read declared (Ok a) by either all = tt
refused (Ok text) declared (Err f) by either all = of_reader declared text.items f all by
refused (Err e) declared (Err f) by either all = unread declared f either
