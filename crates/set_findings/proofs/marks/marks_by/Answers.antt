use Rattle.std.proofs.Common.{map, ap, sym, subst, ◌∙◌}
use Rattle.std.specs.List.{All}
use Rattle.env_index.specs.Words.{AreMarks}
use Rattle.worker_pool.specs.Asked.{marks_asked}
use Rattle.set_findings.proofs.Answering.{marks_are}
use Rattle.set_findings.proofs.marks.marks_by.Goals as goal

pub returns-in-Ok-marks_of_each : goal.returns-in-Ok-marks_of_each
returns-in-Ok-marks_of_each g c =
    subst (All (AreMarks c.args.text.now)) (sym c.in-Ok-marks_of_each.ensures)
    (marks_are c.args.text.now c.in-Ok.jobs.items c.in_ok-done.done.items
    (c.in_ok-done.ensures ∙ ap (map marks_asked) c.as_slice.ensures.value) c.in-Ok.ensures)
