use Rattle.std.proofs.Common.{List, [], Option, length, ap, ◌∙◌}
use Rattle.hub_kinds.specs.declared.interchange.InterchangeFault.{InterchangeFault}
use Rattle.set_answers.proofs.ForAbove.{faults_length, settled_spans}
use Rattle.hub_run.proofs.plain.read_night.Goals as goal

pub settle-requires : goal.settle-requires
settle-requires c =
    ap (λ (fs : List (Option InterchangeFault)). length fs) (c.as_slice.ensures.value ∙ c.in_ok-faults.ensures)
    ∙ faults_length c.args.setup.now [] c.in_ok-index.index.entries

pub write_night-requires : goal.write_night-requires
write_night-requires c =
    settled_spans c.args.text.now c.in_ok-index.index c.settle.new.self c.as_slice.result.now c.in_ok-index.ensures c.settle.ensures
