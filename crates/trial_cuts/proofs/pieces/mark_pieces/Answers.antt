use Rattle.std.proofs.Common.{◌++◌, List, [], ◌∷◌, ◌∙◌, ap, sym, arith}
use Rattle.std.proofs.lemmas.List.{take_all}
use Rattle.cut_plan.specs.Plan.{pieces}
use Rattle.env_marks.specs.Laws.{values}
use Rattle.env_marks.specs.Marking.{MarksValue, marks_of}
use Rattle.env_marks.proofs.ForAbove.{values-more}
use Rattle.cut_plan.proofs.ForAbove.{length-pieces}
use Rattle.trial_cuts.proofs.pieces.mark_pieces.Goals as goal

pub loop-i-preserved : goal.loop-i-preserved
loop-i-preserved c =
    (c.in_ok-push.ensures {u = tt}).items
    ∙ ap (λ (m : MarksValue). c.loop-i.list.items ++ m ∷ []) (c.in_ok-marks_of.ensures {u = tt})
    ∙ ap (λ (ms : List MarksValue). ms ++ marks_of c.args.pair c.args.text.now c.piece.result.from c.piece.result.to ∷ [])
    c.loop-i.invariant
    ∙ sym (values-more marks_of c.args.pair c.args.text.now (pieces c.args.cuts.now) c.loop-i.i c.piece.result c.piece.ensures.value)

pub returns-clause-list : goal.returns-clause-list
returns-clause-list c =
    let ps = length-pieces 0 c.args.cuts.now.places c.args.cuts.now.text_len in
    c.loop-i.invariant
    ∙ ap (λ ps. values marks_of c.args.pair c.args.text.now ps) (take_all c.loop-i.i (pieces c.args.cuts.now) (omega (arith, ps)))
