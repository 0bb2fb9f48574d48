use Rattle.std.proofs.Common.{List, ℕ, Option, inl, inr, map, rules, subst, sym}
use Rattle.explain_command.specs.Reports.{IsNamedRun, IsNamesRefusal}
use Rattle.explain_command.specs.CommandLine.{paths_in}
use Rattle.explain_command.proofs.CommandLine.{files_named, text_asked}
use Rattle.explain_command.proofs.run.explain_main.Goals as goal

pub returns-in-Ok-Explain-clause-printed : goal.returns-in-Ok-Explain-clause-printed
returns-in-Ok-Explain-clause-printed g c words names stdout memory =
    let paths = c.in-Ok-Explain.paths in
    let named = files_named (map g.S.AsStr.text c.args.words.now) c.in-Ok-Explain.field-0 paths c.in-Ok-Explain.field-0-is
    c.in-Ok-Explain.ensures.asked in
    inl (
      paths_in paths,
      named.0,
      subst
          (λ (n : Option (List ℕ)). IsNamedRun n (paths_in paths) c.explain_paths.result (g.O.Write.contents c.args.out.now)
          (g.O.Write.contents c.explain_paths.new.out)) (sym named.1) (c.explain_paths.ensures.printed names stdout memory),
    )

pub returns-in-Ok-Explain-clause-refused : goal.returns-in-Ok-Explain-clause-refused
returns-in-Ok-Explain-clause-refused g c three =
    let paths = c.in-Ok-Explain.paths in
    let named = files_named (map g.S.AsStr.text c.args.words.now) c.in-Ok-Explain.field-0 paths c.in-Ok-Explain.field-0-is
    c.in-Ok-Explain.ensures.asked in
    subst IsNamesRefusal (sym named.1) (c.explain_paths.ensures.refused three)

pub returns-in-Ok-Show-clause-printed : goal.returns-in-Ok-Show-clause-printed
returns-in-Ok-Show-clause-printed g c words names stdout memory =
    inr (record {
      asked =
          text_asked (map g.S.AsStr.text c.args.words.now) c.in-Ok-Show.field-0 c.in-Ok-Show.text c.in-Ok-Show.field-0-is
          c.in-Ok-Show.ensures.asked;
      text = c.as_bytes.result.now;
      printed = c.print_out.ensures.printed stdout;
      own_status = search rules;
    })
