use Rattle.std.proofs.lemmas.Result.{IfOk-weaker}
use Rattle.track_table.specs.Track.{IsTrack}
use Rattle.track_equal.specs.Table.{IsTableOf}
use Rattle.track_command.proofs.track.tracked.Goals as goal

pub returns : goal.returns
returns c =
    IfOk-weaker c.track_plain.result (IsTrack c.args.text.now c.args.setup.now c.args.documents.now)
    (IsTableOf c.args.text.now c.args.setup.now c.args.documents.now)
    (c.tracks_are_one.ensures c.args.text.now c.args.setup.now c.args.documents.now) c.track_plain.ensures
