use Rattle.std.proofs.Common.{arith, inr, map}
use Rattle.hub_adopt.specs.Asked.{request_as}
use Rattle.hub_adopt.proofs.CommandLine.{adopt_asked, can_share, text_asked}
use Rattle.hub_adopt.proofs.Telling.{done_and_told}
use Rattle.hub_adopt.proofs.program.adopt_main.Goals as goal

pub returns-in-Ok-Adopt-clause-printed : goal.returns-in-Ok-Adopt-clause-printed
returns-in-Ok-Adopt-clause-printed g c done =
    let words = map g.S.AsStr.text c.args.words.now in
    done_and_told words (request_as c.in-Ok-Adopt.options) c.adopt.result _ _
    (adopt_asked words c.in-Ok-Adopt.field-0 c.in-Ok-Adopt.options c.in-Ok-Adopt.field-0-is c.in-Ok-Adopt.ensures.asked)
    c.adopt.ensures (c.end.ensures.printed done)

pub returns-in-Ok-Show-clause-printed : goal.returns-in-Ok-Show-clause-printed
returns-in-Ok-Show-clause-printed g c done =
    inr (record {
      asked =
          text_asked (map g.S.AsStr.text c.args.words.now) c.in-Ok-Show.field-0 c.in-Ok-Show.text c.in-Ok-Show.field-0-is
          c.in-Ok-Show.ensures.asked;
      text = c.as_bytes.result.now;
      printed = c.print_out.ensures.printed (λ five. absurd (omega (arith, done, five)));
    })

pub adopt-requires-clause-sharing : goal.adopt-requires-clause-sharing
adopt-requires-clause-sharing g c κs within =
    can_share (map g.S.AsStr.text c.args.words.now) c.in-Ok-Adopt.field-0 c.in-Ok-Adopt.options c.in-Ok-Adopt.field-0-is
    c.in-Ok-Adopt.ensures.asked
