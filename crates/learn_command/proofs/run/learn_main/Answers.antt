use Rattle.std.proofs.Common.{arith, inl, inr, map}
use Rattle.learn_command.proofs.CommandLine.{options_named, text_asked}
use Rattle.learn_command.proofs.run.learn_main.Goals as goal

pub returns-in-Ok-Learn-clause-printed : goal.returns-in-Ok-Learn-clause-printed
returns-in-Ok-Learn-clause-printed g c done =
    inl (
      c.in-Ok-Learn.options,
      options_named (map g.S.AsStr.text c.args.words.now) c.in-Ok-Learn.field-0 c.in-Ok-Learn.options c.in-Ok-Learn.field-0-is
          c.in-Ok-Learn.ensures.asked,
      c.print_guide.ensures.printed done,
    )

pub returns-in-Ok-Learn-clause-refused : goal.returns-in-Ok-Learn-clause-refused
returns-in-Ok-Learn-clause-refused g c three = (
  c.in-Ok-Learn.options,
  options_named (map g.S.AsStr.text c.args.words.now) c.in-Ok-Learn.field-0 c.in-Ok-Learn.options c.in-Ok-Learn.field-0-is
      c.in-Ok-Learn.ensures.asked,
  c.print_guide.ensures.refused three,
)

pub returns-in-Ok-Show-clause-printed : goal.returns-in-Ok-Show-clause-printed
returns-in-Ok-Show-clause-printed g c done =
    inr (record {
      asked =
          text_asked (map g.S.AsStr.text c.args.words.now) c.in-Ok-Show.field-0 c.in-Ok-Show.text c.in-Ok-Show.field-0-is
          c.in-Ok-Show.ensures.asked;
      text = c.as_bytes.result.now;
      printed = c.print_out.ensures.printed (omega (arith, done));
    })
