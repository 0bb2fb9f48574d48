use Rattle.night_command.proofs.Opening.{unread_of}
use Rattle.night_command.proofs.input.source_of.Goals as goal

pub returns-clause-source : goal.returns-clause-source
returns-clause-source g c =
    unread_of _ _ _ _ c.args.answer c.said_of.result c.input_of.result c.said_of.ensures c.input_of.ensures.limit
    c.input_of.ensures.remaining c.input_of.ensures.faults c.input_of.ensures.given
