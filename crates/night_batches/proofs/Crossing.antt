-- What mailboxes are closed by may be shared between threads, and the sets of partners may go to one.
use denote.Param.Send.{IsSend, IsSync, sendable}
use Rattle.set_answers.specs.contracts.files.Acknowledgments as sent
use Rattle.mailbox.specs.contracts.rendered_sets.RenderedSets as rendered
use Rattle.moment.specs.contracts.at.At as moment
use Rattle.std.proofs.Crossing.{crosses}

pub sets_send : IsSend rendered.the_field.row
sets_send = search (crosses, sendable) depth 60 fits 20000

pub at_sync : IsSync moment.the_field.row
at_sync = search (crosses, sendable) depth 60 fits 20000

pub sent_sync : IsSync sent.the_field.row
sent_sync = search (crosses, sendable) depth 60 fits 20000
