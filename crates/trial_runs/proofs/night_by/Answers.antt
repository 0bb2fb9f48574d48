use Rattle.trial_runs.proofs.Sizes.{is_for_partners}
use Rattle.trial_runs.proofs.night_by.Goals as goal

pub returns-then-plain : goal.returns-then-plain
returns-then-plain g c =
    is_for_partners c.args.setup.now c.in_ok-night.night c.args.text.now c.args.options.now.at c.in_ok-night.ensures.definition

pub returns : goal.returns
returns g c =
    is_for_partners c.args.setup.now c.in_ok-night-2.night c.args.text.now c.args.options.now.at c.in_ok-night-2.ensures.definition
