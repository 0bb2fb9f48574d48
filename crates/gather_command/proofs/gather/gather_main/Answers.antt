use Rattle.std.proofs.Common.{arith, inl, inr, map}
use Rattle.gather_command.specs.Outcome.{Made, Shown}
use Rattle.gather_command.proofs.CommandLine.{job_named, text_asked}
use Rattle.gather_command.proofs.gather.gather_main.Goals as goal

pub returns-in-Ok-Gather-clause-printed : goal.returns-in-Ok-Gather-clause-printed
returns-in-Ok-Gather-clause-printed g c done =
    Made c.in-Ok-Gather.job
    (job_named (map g.S.AsStr.text c.args.words.now) c.in-Ok-Gather.field-0 c.in-Ok-Gather.job c.in-Ok-Gather.field-0-is
    c.in-Ok-Gather.ensures.asked)
    (c.gather.ensures.printed done)

pub returns-in-Ok-Show-clause-printed : goal.returns-in-Ok-Show-clause-printed
returns-in-Ok-Show-clause-printed g c done =
    Shown
    (text_asked (map g.S.AsStr.text c.args.words.now) c.in-Ok-Show.field-0 c.in-Ok-Show.text c.in-Ok-Show.field-0-is
    c.in-Ok-Show.ensures.asked)
    c.as_bytes.result.now
    (c.print_out.ensures.printed (omega (arith, done)))
    (elim c.print_out.ensures.status [
      | inl zero ↦ zero
      | inr five ↦ absurd (omega (arith, done, five))
    ])
