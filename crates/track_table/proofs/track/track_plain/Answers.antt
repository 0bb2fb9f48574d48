use Rattle.std.proofs.Common.{List, [], Option, length, ap, ◌∙◌}
use Rattle.std.proofs.lemmas.Result.{IfOk-weaker}
use Rattle.hub_kinds.specs.declared.interchange.InterchangeFault.{InterchangeFault}
use Rattle.set_answers.proofs.ForAbove.{faults_length, settled_spans}
use Rattle.track_table.proofs.Tracked.{track_of}
use Rattle.track_table.proofs.track.track_plain.Goals as goal

pub settle-requires : goal.settle-requires
settle-requires c =
    ap (λ (fs : List (Option InterchangeFault)). length fs) (c.as_slice.ensures.value ∙ c.in_ok-faults.ensures)
    ∙ faults_length c.args.setup.now [] c.in_ok-index.index.entries

pub track_index-requires : goal.track_index-requires
track_index-requires c =
    settled_spans c.args.text.now c.in_ok-index.index c.settle.new.self c.as_slice.result.now c.in_ok-index.ensures c.settle.ensures

pub returns : goal.returns
returns c =
    IfOk-weaker c.track_index.result _ _
    (λ track is. track_of c.args.text.now c.args.setup.now c.args.documents.now c.in_ok-index.index c.settle.new.self c.as_slice.result.now
    track c.in_ok-index.ensures c.settle.ensures (c.as_slice.ensures.value ∙ c.in_ok-faults.ensures) is) c.track_index.ensures
