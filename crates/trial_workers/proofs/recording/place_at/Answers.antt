use Rattle.std.proofs.lemmas.List.Elements.{Contains-get_or}
use Rattle.trial_workers.proofs.recording.place_at.Goals as goal

pub returns : goal.returns
returns c = Contains-get_or c.args.places.now c.args.k _ c.requires
