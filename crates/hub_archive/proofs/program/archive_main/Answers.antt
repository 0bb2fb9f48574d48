use Rattle.std.proofs.Common.{arith, inr, map}
use Rattle.hub_archive.specs.Asked.{request_as}
use Rattle.hub_archive.proofs.CommandLine.{archive_asked, text_asked}
use Rattle.hub_archive.proofs.Telling.{done_and_told}
use Rattle.hub_archive.proofs.program.archive_main.Goals as goal

pub returns-in-Ok-Archive-clause-printed : goal.returns-in-Ok-Archive-clause-printed
returns-in-Ok-Archive-clause-printed g c done =
    let words = map g.S.AsStr.text c.args.words.now in
    done_and_told words (request_as c.in-Ok-Archive.options) c.archive.result _ _
    (archive_asked words c.in-Ok-Archive.field-0 c.in-Ok-Archive.options c.in-Ok-Archive.field-0-is c.in-Ok-Archive.ensures.asked)
    c.archive.ensures (c.end.ensures.printed done)

pub returns-in-Ok-Show-clause-printed : goal.returns-in-Ok-Show-clause-printed
returns-in-Ok-Show-clause-printed g c done =
    inr (record {
      asked =
          text_asked (map g.S.AsStr.text c.args.words.now) c.in-Ok-Show.field-0 c.in-Ok-Show.text c.in-Ok-Show.field-0-is
          c.in-Ok-Show.ensures.asked;
      text = c.as_bytes.result.now;
      printed = c.print_out.ensures.printed (λ five. absurd (omega (arith, done, five)));
    })
