use Rattle.std.proofs.Common.{◌<◌, ◌∙◌, ◌&&◌, Bool, List, ap, arith, get_or, length, sym}
use Rattle.std.specs.List.{list_all}
use Rattle.std.specs.Option.{option_copied}
use Rattle.std.proofs.lemmas.List.{take_all}
use Rattle.std.proofs.lemmas.List.Folds.{list_all_at, list_all_more}
use Rattle.hub_kinds.specs.declared.fault.Fault.{Fault}
use Rattle.set_check.specs.Checked.{guide_tree_of}
use Rattle.set_check.specs.Verdict.{tolerates}
use Rattle.set_check.proofs.verdict.are_tolerated.Goals as goal

pub loop-i-preserved : goal.loop-i-preserved
loop-i-preserved c =
    let faults : List Fault = c.args.faults.now in
    let p : Fault → Bool = tolerates (guide_tree_of (option_copied c.args.guide)) in
    let within : c.loop-i.i < length faults = omega (arith, c.loop-i-test.true, c.len-i-end.ensures) in
    list_all_more p faults c.loop-i.i c.at.result within
    ∙ ap (λ (b : Bool). b && p (get_or faults c.loop-i.i c.at.result)) c.loop-i.invariant
    ∙ ap p (sym (c.at.ensures c.at.result)) ∙ sym c.tolerates.ensures ∙ c.if-not-tolerates.false

pub returns-then-not-tolerates : goal.returns-then-not-tolerates
returns-then-not-tolerates c =
    let faults : List Fault = c.args.faults.now in
    let p : Fault → Bool = tolerates (guide_tree_of (option_copied c.args.guide)) in
    let within : c.loop-i.i < length faults = omega (arith, c.loop-i-test.true, c.len-i-end.ensures) in
    sym (list_all_at p faults c.loop-i.i c.at.result within
    (ap p (sym (c.at.ensures c.at.result)) ∙ sym c.tolerates.ensures ∙ c.if-not-tolerates.true))

pub returns : goal.returns
returns c =
    let faults : List Fault = c.args.faults.now in
    let p : Fault → Bool = tolerates (guide_tree_of (option_copied c.args.guide)) in
    sym (ap (list_all p) (sym (take_all c.loop-i.i faults (omega (arith, c.loop-i-test.false, c.len-i-end.ensures))))
    ∙ c.loop-i.invariant)
