use Rattle.std.proofs.Common.{arith, inl, inr, map}
use Rattle.hub_command.specs.Asked.{run_in}
use Rattle.hub_command.specs.CommandLine.{give_up, init, run}
use Rattle.hub_command.proofs.CommandLine.{can_share, given_up_asked, init_asked, run_asked, text_asked}
use Rattle.hub_command.proofs.Telling.{done_and_told}
use Rattle.hub_command.proofs.program.hub_main.Goals as goal

pub returns-in-Ok-Init-clause-printed : goal.returns-in-Ok-Init-clause-printed
returns-in-Ok-Init-clause-printed g c done =
    let words = map g.S.AsStr.text c.args.words.now in
    done_and_told words (init c.in-Ok-Init.hub.now) c.init_hub.result _ _ _
    (init_asked words c.in-Ok-Init.field-0 c.in-Ok-Init.hub c.in-Ok-Init.field-0-is c.in-Ok-Init.ensures.asked) c.init_hub.ensures.text
    (c.end.ensures.printed done)

pub returns-in-Ok-Run-clause-printed : goal.returns-in-Ok-Run-clause-printed
returns-in-Ok-Run-clause-printed g c done =
    let words = map g.S.AsStr.text c.args.words.now in
    done_and_told words (run c.in-Ok-Run.hub.now (run_in c.in-Ok-Run.options)) c.run_hub.result _ _ _
    (run_asked words c.in-Ok-Run.field-0 c.in-Ok-Run.hub c.in-Ok-Run.options c.in-Ok-Run.field-0-is c.in-Ok-Run.ensures.asked)
    c.run_hub.ensures.told (c.end-in-Ok-Run.ensures.printed done)

pub returns-in-Ok-GiveUp-clause-printed : goal.returns-in-Ok-GiveUp-clause-printed
returns-in-Ok-GiveUp-clause-printed g c done =
    let words = map g.S.AsStr.text c.args.words.now in
    done_and_told words (give_up c.in-Ok-GiveUp.hub.now c.in-Ok-GiveUp.not_sent) c.give_up.result _ _ _
    (given_up_asked words c.in-Ok-GiveUp.field-0 c.in-Ok-GiveUp.hub c.in-Ok-GiveUp.not_sent c.in-Ok-GiveUp.field-0-is
    c.in-Ok-GiveUp.ensures.asked)
    c.give_up.ensures.done (c.end-in-Ok-GiveUp.ensures.printed done)

pub returns-in-Ok-Show-clause-printed : goal.returns-in-Ok-Show-clause-printed
returns-in-Ok-Show-clause-printed g c done =
    inr (record {
      asked =
          text_asked (map g.S.AsStr.text c.args.words.now) c.in-Ok-Show.field-0 c.in-Ok-Show.text c.in-Ok-Show.field-0-is
          c.in-Ok-Show.ensures.asked;
      text = c.as_bytes.result.now;
      printed = c.print_out.ensures.printed (omega (arith, done));
      own_status = elim c.print_out.ensures.status [
        | inl zero ↦ zero
        | inr five ↦ absurd (omega (arith, done, five))
      ];
    })

pub run_hub-requires-clause-sharing : goal.run_hub-requires-clause-sharing
run_hub-requires-clause-sharing g c κs within =
    can_share (map g.S.AsStr.text c.args.words.now) c.in-Ok-Run.field-0 c.in-Ok-Run.hub c.in-Ok-Run.options c.in-Ok-Run.field-0-is
    c.in-Ok-Run.ensures.asked
