use Rattle.explain_command.proofs.Refusing.{refused, said}
use Rattle.explain_command.proofs.explain.explained.Goals as goal

pub returns-clause-lines : goal.returns-clause-lines
returns-clause-lines g c =
    said c.args.names.now c.read_whole.result (g.I.Read.remaining c.args.input) c.account_read.result c.account_read.ensures.said
    c.read_whole.ensures

pub returns-clause-refused : goal.returns-clause-refused
returns-clause-refused g c =
    refused c.read_whole.result (g.I.Read.remaining c.args.input) c.account_read.result c.account_read.ensures.refused
    c.account_read.ensures.either c.read_whole.ensures
