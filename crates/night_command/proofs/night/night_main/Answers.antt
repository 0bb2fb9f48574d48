use Rattle.std.proofs.Common.{inl, inr, map}
use Rattle.night_command.proofs.Failing.{asked_for, names, night_named, text_shown}
use Rattle.night_command.proofs.Shared.{can_share}
use Rattle.night_command.proofs.night.night_main.Goals as goal

pub returns-in-Ok-Run-clause-setup : goal.returns-in-Ok-Run-clause-setup
returns-in-Ok-Run-clause-setup g c three =
    names (map g.S.AsStr.text c.args.words.now) c.in-Ok-Run.field-0 c.in-Ok-Run.options c.in-Ok-Run.field-0-is c.in-Ok-Run.ensures.asked

pub returns-in-Ok-Run-clause-input : goal.returns-in-Ok-Run-clause-input
returns-in-Ok-Run-clause-input g c four =
    names (map g.S.AsStr.text c.args.words.now) c.in-Ok-Run.field-0 c.in-Ok-Run.options c.in-Ok-Run.field-0-is c.in-Ok-Run.ensures.asked

pub returns-in-Ok-Run-clause-printed : goal.returns-in-Ok-Run-clause-printed
returns-in-Ok-Run-clause-printed g c done =
    night_named (map g.S.AsStr.text c.args.words.now) c.in-Ok-Run.field-0 c.in-Ok-Run.options c.run.result _ _ c.in-Ok-Run.field-0-is
    c.in-Ok-Run.ensures.asked (c.run.ensures.printed done)

pub returns-in-Ok-Show-clause-printed : goal.returns-in-Ok-Show-clause-printed
returns-in-Ok-Show-clause-printed g c done =
    text_shown (map g.S.AsStr.text c.args.words.now) c.in-Ok-Show.field-0 c.in-Ok-Show.text c.finish.result _ _ c.in-Ok-Show.field-0-is
    c.in-Ok-Show.ensures.asked done c.finish.ensures.status c.finish.ensures.printed

pub returns-in-Ok-Run-clause-output : goal.returns-in-Ok-Run-clause-output
returns-in-Ok-Run-clause-output g c five =
    inl (names (map g.S.AsStr.text c.args.words.now) c.in-Ok-Run.field-0 c.in-Ok-Run.options c.in-Ok-Run.field-0-is
    c.in-Ok-Run.ensures.asked)

pub returns-in-Ok-Show-clause-output : goal.returns-in-Ok-Show-clause-output
returns-in-Ok-Show-clause-output g c five =
    inr (asked_for (map g.S.AsStr.text c.args.words.now) c.in-Ok-Show.field-0 c.in-Ok-Show.text c.in-Ok-Show.field-0-is
    c.in-Ok-Show.ensures.asked)

pub run-requires-clause-sharing : goal.run-requires-clause-sharing
run-requires-clause-sharing g c κs within =
    can_share (map g.S.AsStr.text c.args.words.now) c.in-Ok-Run.field-0 c.in-Ok-Run.options c.in-Ok-Run.field-0-is c.in-Ok-Run.ensures.asked
