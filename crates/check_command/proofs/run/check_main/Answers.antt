use Rattle.std.proofs.Common.{inl, inr, map}
use Rattle.check_command.proofs.CommandLine.{named, text_asked}
use Rattle.check_command.proofs.run.check_main.Goals as goal

pub returns-in-Ok-Check-clause-printed : goal.returns-in-Ok-Check-clause-printed
returns-in-Ok-Check-clause-printed g c words stdout memory =
    inl (
      c.in-Ok-Check.options,
      named (map g.S.AsStr.text c.args.words.now) c.in-Ok-Check.field-0 c.in-Ok-Check.options c.in-Ok-Check.field-0-is
          c.in-Ok-Check.ensures.asked,
      c.check.ensures.printed words stdout memory,
    )

pub returns-in-Ok-Show-clause-printed : goal.returns-in-Ok-Show-clause-printed
returns-in-Ok-Show-clause-printed g c words stdout memory =
    inr (
      text_asked (map g.S.AsStr.text c.args.words.now) c.in-Ok-Show.field-0 c.in-Ok-Show.text c.in-Ok-Show.field-0-is
          c.in-Ok-Show.ensures.asked,
      elim c.print_out.ensures.status [
        | inl zero ↦ zero
        | inr five ↦ absurd (stdout five)
      ],
    )
