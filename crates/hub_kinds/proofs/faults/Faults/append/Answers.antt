use Rattle.std.proofs.Common.{◌++◌, ◌∷◌, ◌<◌, [], List, ap, arith, append_assoc, length, sym, take, ◌∙◌}
use Rattle.std.proofs.lemmas.List.{take_more}
use Rattle.hub_kinds.specs.declared.fault.Fault.{Fault}
use Rattle.hub_kinds.proofs.faults.Faults.append.Goals as goal

pub loop-i-preserved : goal.loop-i-preserved
loop-i-preserved c =
    let others : List Fault = c.args.others in
    let before : List Fault = take c.loop-i.i others in
    let within : c.loop-i.i < length others = omega (arith, c.loop-i-test.true, c.len-i-end.ensures) in
    c.in_ok-push.ensures
    ∙ ap (λ (l : List Fault). l ++ c.at.result ∷ []) c.loop-i.invariant
    ∙ append_assoc c.args.self.now before (c.at.result ∷ [])
    ∙ ap (λ (f : Fault). c.args.self.now ++ (before ++ f ∷ [])) (c.at.ensures c.at.result)
    ∙ ap (λ (l : List Fault). c.args.self.now ++ l) (sym (take_more others c.loop-i.i c.at.result within))
