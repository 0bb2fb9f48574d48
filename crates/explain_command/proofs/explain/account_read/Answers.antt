use Rattle.std.proofs.Common.{List, ℕ, Result, Vec, subst, sym}
use Rattle.std.specs.Prelude.{IfErr, IfOk, IsOkAnd}
use Rattle.std.specs.declared.alloc.Global.{Global}
use Rattle.std.specs.declared.io.Error.{Error}
use Rattle.explain_command.specs.Failure.{IsOfText}
use Rattle.explain_command.specs.Outcome.{IsSaidOf}
use Rattle.explain_command.proofs.explain.account_read.Goals as goal

pub returns-in-Ok-clause-said : goal.returns-in-Ok-clause-said
returns-in-Ok-clause-said c =
    subst (λ (r : Result (Vec ℕ Global) Error).
    IfOk c.account_of.result (λ a. IsOkAnd r (λ text. IsSaidOf c.args.names.now text.items a.lines.items a.cut))) (sym c.in-Ok.is)
    (subst (λ (text : List ℕ). IfOk c.account_of.result (λ a. IsSaidOf c.args.names.now text a.lines.items a.cut)) c.as_slice.ensures.value
    c.account_of.ensures.said)

pub returns-in-Ok-clause-refused : goal.returns-in-Ok-clause-refused
returns-in-Ok-clause-refused c =
    subst (λ (r : Result (Vec ℕ Global) Error). IfOk r (λ text. IfErr c.account_of.result (IsOfText text.items))) (sym c.in-Ok.is)
    (subst (λ (text : List ℕ). IfErr c.account_of.result (IsOfText text)) c.as_slice.ensures.value c.account_of.ensures.refused)
