use Rattle.std.proofs.Common.{◌++◌, ◌∷◌, ◌<◌, ◌∙◌, [], Bool, List, ap, arith, filter, length, not, sym, take}
use Rattle.std.proofs.lemmas.List.{take_all, take_more}
use Rattle.std.proofs.lemmas.List.Elements.{filter-append}
use Rattle.hub_kinds.specs.declared.fault.Fault.{Fault}
use Rattle.set_check.specs.Adding.{has_key_among}
use Rattle.set_check.proofs.rules.beside.Goals as goal

pub loop-i-preserved : goal.loop-i-preserved
loop-i-preserved c =
    let others : List Fault = c.args.others.now in
    let p : Fault → Bool = λ f. not (has_key_among c.args.sorted.now f) in
    let before : List Fault = take c.loop-i.i others in
    let within : c.loop-i.i < length others = omega (arith, c.loop-i-test.true, c.len-i-end.ensures) in
    c.in_ok-add_beside.ensures
    ∙ ap (λ (l : List Fault). l ++ filter p (c.at.result ∷ [])) c.loop-i.invariant
    ∙ sym (filter-append p before (c.at.result ∷ []))
    ∙ ap (λ (f : Fault). filter p (before ++ f ∷ [])) (c.at.ensures c.at.result)
    ∙ ap (filter p) (sym (take_more others c.loop-i.i c.at.result within))

pub returns : goal.returns
returns c =
    let others : List Fault = c.args.others.now in
    let p : Fault → Bool = λ f. not (has_key_among c.args.sorted.now f) in
    c.loop-i.invariant ∙ ap (filter p) (take_all c.loop-i.i others (omega (arith, c.loop-i-test.false, c.len-i-end.ensures)))
