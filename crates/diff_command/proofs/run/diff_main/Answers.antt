use Rattle.std.proofs.Common.{arith, inl, inr, map}
use Rattle.diff_command.proofs.CommandLine.{guides_named, text_asked}
use Rattle.diff_command.proofs.run.diff_main.Goals as goal

pub returns-in-Ok-Compare-clause-printed : goal.returns-in-Ok-Compare-clause-printed
returns-in-Ok-Compare-clause-printed g c done =
    inl (
      c.in-Ok-Compare.paths.old.now,
      c.in-Ok-Compare.paths.new.now,
      guides_named (map g.S.AsStr.text c.args.words.now) c.in-Ok-Compare.field-0 c.in-Ok-Compare.paths c.in-Ok-Compare.field-0-is
          c.in-Ok-Compare.ensures.asked,
      c.compare_files.ensures.printed done,
    )

pub returns-in-Ok-Compare-clause-refused : goal.returns-in-Ok-Compare-clause-refused
returns-in-Ok-Compare-clause-refused g c three = (
  c.in-Ok-Compare.paths.old.now,
  c.in-Ok-Compare.paths.new.now,
  guides_named (map g.S.AsStr.text c.args.words.now) c.in-Ok-Compare.field-0 c.in-Ok-Compare.paths c.in-Ok-Compare.field-0-is
      c.in-Ok-Compare.ensures.asked,
  c.compare_files.ensures.refused three,
)

pub returns-in-Ok-Show-clause-printed : goal.returns-in-Ok-Show-clause-printed
returns-in-Ok-Show-clause-printed g c done =
    inr (record {
      asked =
          text_asked (map g.S.AsStr.text c.args.words.now) c.in-Ok-Show.field-0 c.in-Ok-Show.text c.in-Ok-Show.field-0-is
          c.in-Ok-Show.ensures.asked;
      text = c.as_bytes.result.now;
      printed = c.print_out.ensures.printed (omega (arith, done));
      own_status = elim c.print_out.ensures.status [
        | inl zero ↦ zero
        | inr five ↦ absurd (omega (arith, done, five))
      ];
    })
