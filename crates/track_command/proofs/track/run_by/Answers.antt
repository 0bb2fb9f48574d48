use Rattle.track_command.proofs.Given.{tracked_of}
use Rattle.track_command.proofs.track.run_by.Goals as goal

pub returns-clause-tracked : goal.returns-clause-tracked
returns-clause-tracked g c clean =
    tracked_of _ c.args.options.now c.args.setup.now _ _ _ _ _ c.requires.setup (c.give_opened.ensures.given clean)
