use Rattle.std.proofs.Common.{◌∙◌, inl, inr, subst}
use Rattle.std.proofs.lemmas.Result.{IfOk-weaker}
use Rattle.ack_read.specs.Words.{IsRefused}
use Rattle.day_command.proofs.told.lines_of.Goals as goal

pub returns-in_ok-explanation-in-Ok : goal.returns-in_ok-explanation-in-Ok
returns-in_ok-explanation-in-Ok c =
    inl (c.in-Ok.found.items, c.in-Ok.ensures.told, c.from_vec.ensures ∙ c.in_ok-explanation-in-Ok.ensures.lines)

pub returns-in-Err-NoHeader : goal.returns-in-Err-NoHeader
returns-in-Err-NoHeader c =
    let refused = subst (IsRefused c.args.text.now) c.in-Err-NoHeader.field-0-is c.in-Err-NoHeader.ensures.refused in
    IfOk-weaker c.unread_lines.result _ _ (λ lines is. inr (inl refused, is)) c.unread_lines.ensures

pub returns-in-Err-TellsNothing : goal.returns-in-Err-TellsNothing
returns-in-Err-TellsNothing c =
    let refused = subst (IsRefused c.args.text.now) c.in-Err-TellsNothing.field-0-is c.in-Err-TellsNothing.ensures.refused in
    IfOk-weaker c.unread_lines-in-Err-TellsNothing.result _ _ (λ lines is. inr (inr refused, is))
    c.unread_lines-in-Err-TellsNothing.ensures
