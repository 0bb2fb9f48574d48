use Rattle.std.proofs.Common.{ℕ, List, arith, inl, inr, subst, sym}
use Rattle.diff_command.specs.Outcome.{IsReport}
use Rattle.diff_command.proofs.run.compare_files.Goals as goal

pub returns-in-Ok-clause-printed : goal.returns-in-Ok-clause-printed
returns-in-Ok-clause-printed g c done = record {
  text = c.as_slice.result.now;
  report =
      subst (λ (t : List ℕ). IsReport c.args.paths.now.old.now c.args.paths.now.new.now t c.print_out.result)
      (sym c.as_slice.ensures.value)
      (elim c.print_out.ensures.status [
        | inl is ↦
            subst (λ (n : ℕ). IsReport c.args.paths.now.old.now c.args.paths.now.new.now c.in-Ok.report.text.items n) (sym is)
            c.in-Ok.ensures.report
        | inr five ↦ absurd (omega (arith, done, five))
      ]);
  printed = c.print_out.ensures.printed (omega (arith, done));
}
