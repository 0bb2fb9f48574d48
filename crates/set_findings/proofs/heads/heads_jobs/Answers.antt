use Rattle.std.proofs.Common.{◌++◌, List, [], ◌∷◌, map, ap, sym, subst, ◌∙◌, arith}
use Rattle.std.specs.List.{All}
use Rattle.std.proofs.lemmas.List.{take_all}
use Rattle.std.proofs.lemmas.List.Elements.{All-push}
use Rattle.cut_plan.specs.Plan.{pieces}
use Rattle.cut_plan.proofs.ForAbove.{length-pieces}
use Rattle.worker_pool.specs.Asked.{IsHeadsJob, heads_asked}
use Rattle.worker_pool.specs.declared.heads.HeadsAsked.{HeadsAsked}
use Rattle.worker_pool.specs.declared.heads.HeadsJob.{HeadsJob}
use Rattle.set_findings.specs.Pieces.{piece_asked}
use Rattle.set_findings.proofs.Answering.{asked_more, pushed}
use Rattle.set_findings.proofs.heads.heads_jobs.Goals as goal

pub loop-i-preserved : goal.loop-i-preserved
loop-i-preserved c =
    let text = c.args.text.now in
    let piece = c.piece-piece.result in
    let old : List HeadsJob = c.loop-i.jobs.items in
    let job : HeadsJob = record { text = c.args.text; piece = piece } in
    record {
      asked = pushed heads_asked old c.push.new.self.items job c.in_ok-push.ensures.items
          ∙ ap (λ (l : List HeadsAsked). l ++ piece_asked text piece ∷ []) c.loop-i.invariant.asked
          ∙ sym (asked_more (piece_asked text) (pieces c.args.cuts.now) c.loop-i.i piece c.piece-piece.ensures.value);
      ready = subst (All IsHeadsJob) (sym c.in_ok-push.ensures.items)
          (All-push IsHeadsJob old job c.loop-i.invariant.ready
          (c.piece-piece.ensures.order, omega (arith, c.piece-piece.ensures.within, c.requires)));
    }

pub returns-clause-jobs : goal.returns-clause-jobs
returns-clause-jobs c =
    let ps = length-pieces 0 c.args.cuts.now.places c.args.cuts.now.text_len in
    c.loop-i.invariant.asked
    ∙ ap (map (piece_asked c.args.text.now)) (take_all c.loop-i.i (pieces c.args.cuts.now) (omega (arith, ps)))
