use Rattle.std.proofs.Common.{ℕ, List, arith, map, subst, sym}
use Rattle.std.specs.Prelude.{option_map}
use Rattle.learn_command.specs.Outcome.{IsLearned}
use Rattle.learn_command.proofs.run.print_guide.Goals as goal

pub returns-in-Ok-clause-printed : goal.returns-in-Ok-clause-printed
returns-in-Ok-clause-printed g c done = record {
  text = c.as_slice.result.now;
  learned =
      subst (λ (t : List ℕ). IsLearned (map (λ p. p.now) c.args.options.now.files.items)
      (option_map (λ s. s.now) c.args.options.now.st01) t) (sym c.as_slice.ensures) c.in-Ok.ensures.learned;
  printed = c.print_out.ensures.printed (omega (arith, done));
}
