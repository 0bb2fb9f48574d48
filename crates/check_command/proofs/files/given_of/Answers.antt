use Rattle.std.proofs.Common.{◌≡◌, None, subst}
use Rattle.std.specs.Prelude.{IfErr, IfOk}
use Rattle.check_command.specs.Files.{AreBytesOf}
use Rattle.check_command.proofs.GivenBytes.{closed, given}
use Rattle.check_command.proofs.files.given_of.Goals as goal

pub returns-clause-bytes : goal.returns-clause-bytes
returns-clause-bytes g c =
    subst (λ o. IfOk o (λ input. AreBytesOf (g.I.Read.remaining input) c.in_ok-bytes.bytes)) c.into_answer.ensures
    (given c.into_answer.result g.I.Read.remaining c.read_opened.result c.in_ok-bytes.bytes c.read_opened.ensures.bytes
    c.in_ok-bytes.ensures.bytes c.in_ok-bytes.ensures.none)

pub returns-clause-closed : goal.returns-clause-closed
returns-clause-closed g c =
    subst (λ o. IfErr o (λ _. c.in_ok-bytes.bytes ≡ None)) c.into_answer.ensures
    (closed c.into_answer.result c.read_opened.result c.in_ok-bytes.bytes c.read_opened.ensures.closed c.in_ok-bytes.ensures.none)
