use Rattle.explain_command.proofs.Opened.{told_closed, told_of}
use Rattle.explain_command.proofs.files.tell_opened.Goals as goal

pub returns-clause-told : goal.returns-clause-told
returns-clause-told g c =
    told_of c.args.names.now c.args.opened g.I.Read.remaining c.explained_file.result c.reported.result c.explained_file.ensures.lines
    c.explained_file.ensures.refused c.reported.ensures

pub returns-clause-closed : goal.returns-clause-closed
returns-clause-closed g c =
    told_closed c.args.names.now c.args.opened g.I.Read.remaining c.explained_file.result c.reported.result c.explained_file.ensures.lines
    c.explained_file.ensures.either c.reported.ensures
