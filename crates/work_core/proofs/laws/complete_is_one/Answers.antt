use Rattle.std.proofs.Common.{sym, ◌∙◌}
use Rattle.work_core.proofs.laws.complete_is_one.Goals as goal

pub returns : goal.returns
returns c jobs claimed claimed' recorded recorded' finished finished' h h' = record {
  places = λ p. h.recorded_once p ∙ sym (h'.recorded_once p);
  jobs = λ j. h.finished_once j ∙ sym (h'.finished_once j);
}
