use Rattle.std.proofs.lemmas.Result.{IfOk-weaker}
use Rattle.set_answers.proofs.Acknowledging.{checked_after}
use Rattle.set_answers.proofs.Halved.{can_answer}
use Rattle.set_answers.proofs.writers.ManyThreadsReportWriters.answer_found.Goals as goal

pub answer_by-requires : goal.answer_by-requires
answer_by-requires g c = (
  c.requires.ready,
  can_answer c.args.index.now.text c.text-text.result.now c.args.setup.now c.args.at.now c.args.index.now.entries
      c.interchanges-entries.result.now c.args.found c.as_slice.result.now c.args.sent.items c.text-text.ensures
      c.interchanges-entries.ensures.value c.as_slice.ensures.value c.requires.spans c.requires.found c.requires.sent,
)

pub returns : goal.returns
returns g c =
    IfOk-weaker c.answer_by.result _ _
    (λ v is. checked_after c.args.index.now.text c.text-text.result.now c.args.setup.now c.args.at.now c.args.index.now.entries
    c.interchanges-entries.result.now v.interchanges.items c.args.sent.items v.acknowledgments.items c.text-text.ensures
    c.interchanges-entries.ensures.value is)
    c.answer_by.ensures
