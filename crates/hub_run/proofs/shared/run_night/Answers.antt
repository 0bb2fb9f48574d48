use Rattle.night_law.proofs.ForAbove.{whole_night}
use Rattle.hub_run.proofs.shared.run_night.Goals as goal

pub returns-clause-definition : goal.returns-clause-definition
returns-clause-definition g c =
    c.whole_nights_are_one.ensures c.args.text.now c.args.setup.now c.args.at.now c.in_ok-night.night c.are_sound.ensures.setup
    c.are_sound.ensures.moment
    (whole_night c.args.text.now c.args.setup.now c.args.at.now c.in_ok-night.night c.are_sound.ensures.setup c.are_sound.ensures.moment
    c.in_ok-night.ensures.night)
