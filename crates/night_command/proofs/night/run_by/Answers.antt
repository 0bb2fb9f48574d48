use Rattle.night_command.proofs.Given.{printed_of}
use Rattle.night_command.proofs.night.run_by.Goals as goal

pub returns-clause-printed : goal.returns-clause-printed
returns-clause-printed g c clean =
    printed_of _ c.args.options.now c.args.setup.now _ _ _ _ _ _ c.requires.made (c.give_opened.ensures.given clean)
