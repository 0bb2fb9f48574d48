use Rattle.night_law.proofs.ForAbove.{whole_night}
use Rattle.hub_run.proofs.stream.run_stream.Goals as goal

pub returns-clause-night : goal.returns-clause-night
returns-clause-night g c =
    let of = c.in_ok-night.ensures.night in
    let whole = whole_night of.text c.args.setup.now c.args.at.now c.in_ok-night.night c.are_sound.ensures.setup
    c.are_sound.ensures.moment of.is in
    record {
      text = of.text;
      told_all = of.told_all;
      few = of.few;
      definition = c.whole_nights_are_one.ensures of.text c.args.setup.now c.args.at.now c.in_ok-night.night c.are_sound.ensures.setup
          c.are_sound.ensures.moment whole;
    }
