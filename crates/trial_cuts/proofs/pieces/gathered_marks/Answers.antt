use Rattle.std.proofs.Common.{◌≡◌, ℕ, List, subst, arith}
use Rattle.std.specs.Prelude.{IfOk}
use Rattle.std.proofs.lemmas.List.{length-map}
use Rattle.cut_plan.proofs.ForAbove.{length-pieces}
use Rattle.env_marks.specs.Marking.{marks_of}
use Rattle.trial_cuts.proofs.pieces.gathered_marks.Goals as goal

pub gather-requires : goal.gather-requires
gather-requires c =
    let ps = length-pieces 0 c.args.cuts.now.places c.args.cuts.now.text_len in
    rw (c.in_ok-list.ensures.list, length-map, ps) (omega arith)

pub returns : goal.returns
returns c =
    let text : List ℕ = c.args.text.now in
    subst (λ n. IfOk c.gather.result (λ marks. marks ≡ marks_of c.args.pair text 0 n)) c.requires
    (c.gather.ensures c.args.pair text c.args.cuts.now (c.in_ok-list.ensures.plan) (omega (arith, c.requires)) (c.in_ok-list.ensures.list))
