use Rattle.std.proofs.Common.{inl, map, refl}
use Rattle.track_command.specs.Outcome.{Tracked}
use Rattle.track_command.proofs.Asking.{names, options_named, text_shown}
use Rattle.track_command.proofs.track.track_main.Goals as goal

pub returns-in-Ok-Run-clause-setup : goal.returns-in-Ok-Run-clause-setup
returns-in-Ok-Run-clause-setup g c three =
    names (map g.S.AsStr.text c.args.words.now) c.in-Ok-Run.field-0 c.in-Ok-Run.options c.in-Ok-Run.field-0-is c.in-Ok-Run.ensures.asked

pub returns-in-Ok-Run-clause-input : goal.returns-in-Ok-Run-clause-input
returns-in-Ok-Run-clause-input g c four =
    names (map g.S.AsStr.text c.args.words.now) c.in-Ok-Run.field-0 c.in-Ok-Run.options c.in-Ok-Run.field-0-is c.in-Ok-Run.ensures.asked

pub returns-in-Ok-Run-clause-output : goal.returns-in-Ok-Run-clause-output
returns-in-Ok-Run-clause-output g c five =
    inl (names (map g.S.AsStr.text c.args.words.now) c.in-Ok-Run.field-0 c.in-Ok-Run.options c.in-Ok-Run.field-0-is
    c.in-Ok-Run.ensures.asked)

pub returns-in-Ok-Run-clause-tracked : goal.returns-in-Ok-Run-clause-tracked
returns-in-Ok-Run-clause-tracked g c done =
    Tracked c.in-Ok-Run.options
    (options_named (map g.S.AsStr.text c.args.words.now) c.in-Ok-Run.field-0 c.in-Ok-Run.options c.in-Ok-Run.field-0-is
    c.in-Ok-Run.ensures.asked) (c.run.ensures.tracked done) refl

pub returns-in-Ok-Show-clause-tracked : goal.returns-in-Ok-Show-clause-tracked
returns-in-Ok-Show-clause-tracked g c done =
    text_shown (map g.S.AsStr.text c.args.words.now) c.in-Ok-Show.field-0 c.in-Ok-Show.text c.as_bytes.result.now c.show.result _ _
    c.in-Ok-Show.field-0-is c.in-Ok-Show.ensures.asked done c.show.ensures.status c.show.ensures.printed
