use Rattle.std.proofs.Common.{List, ℕ, ap, subst, sym, ◌∙◌}
use Rattle.x12_bytes.specs.declared.delims.Delims.{Delims}
use Rattle.night_definition.specs.ReadBack.{segments_in}
use Rattle.ack_read.specs.Words.{IsRefused}
use Rattle.ack_read.specs.declared.fault.ReadFault.{ReadFault}
use Rattle.explain_command.specs.Ends.{other_in}
use Rattle.explain_command.specs.Outcome.{Answered, Begun}
use Rattle.explain_command.proofs.Refusing.{is_cut, is_whole, of_memory}
use Rattle.explain_command.proofs.explain.account_by.Goals as goal

pub returns-in_ok-named_explanation-in-Ok-clause-said : goal.returns-in_ok-named_explanation-in-Ok-clause-said
returns-in_ok-named_explanation-in-Ok-clause-said c =
    Answered c.in-Ok.found.items c.in-Ok.ensures.told c.requires.read c.in_ok-named_explanation-in-Ok.ensures.lines c.requires.ends

pub returns-in_err-named_explanation-in-Ok-clause-refused : goal.returns-in_err-named_explanation-in-Ok-clause-refused
returns-in_err-named_explanation-in-Ok-clause-refused c = of_memory c.from_residual.result c.args.text.now c.from_residual.ensures.1

pub returns-in-Err-TellsNothing-clause-said : goal.returns-in-Err-TellsNothing-clause-said
returns-in-Err-TellsNothing-clause-said c =
    let refused =
    subst (λ (f : ReadFault). IsRefused c.args.text.now f) c.in-Err-TellsNothing.field-0-is c.in-Err-TellsNothing.ensures.refused in
    Begun refused c.requires.read c.new.ensures.items c.requires.ends
    (is_cut c.args.cut (sym c.is_some.ensures ∙ c.if-is_some.true))

pub returns-in-Some-clause-refused : goal.returns-in-Some-clause-refused
returns-in-Some-clause-refused c =
    let text : List ℕ = c.args.text.now in
    let refused =
    subst (λ (f : ReadFault). IsRefused text f) c.in-Err-TellsNothing.field-0-is c.in-Err-TellsNothing.ensures.refused in
    let whole = c.requires.ends ∙ is_whole c.args.cut (sym c.is_some.ensures ∙ c.if-is_some.false) in
    (refused, whole, ap (λ (d : Delims). other_in (segments_in d text)) (sym c.requires.delims) ∙ sym c.other_set.ensures ∙ c.in-Some.is)

pub returns-in-None-clause-refused : goal.returns-in-None-clause-refused
returns-in-None-clause-refused c =
    let refused =
    subst (λ (f : ReadFault). IsRefused c.args.text.now f) c.in-Err-TellsNothing.field-0-is c.in-Err-TellsNothing.ensures.refused in
    (refused, c.requires.ends ∙ is_whole c.args.cut (sym c.is_some.ensures ∙ c.if-is_some.false))
