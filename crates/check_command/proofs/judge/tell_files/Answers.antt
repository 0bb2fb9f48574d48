use Rattle.std.proofs.Common.{◌∙◌, ◌++◌, List, Option, ap, option_map, rules}
use Rattle.check_command.specs.Files.{listed}
use Rattle.check_command.specs.declared.told.FileTold.{FileTold}
use Rattle.check_command.proofs.Telling.{all_told, same_paths}
use Rattle.check_command.proofs.judge.tell_files.Goals as goal

pub returns-clause-told : goal.returns-clause-told
returns-clause-told c =
    all_told c.args.given.now c.in_ok-lines.field-0.lines.items c.push_some-2.new.lines.items c.in_ok-of_setup.field-0.line
    c.in_ok-line.field-0.line
    (option_map (λ v. v.items) c.in_ok-lines.field-0.guides) c.in_ok-line.field-0.rows c.in_ok-of_setup.field-0.counters (search rules)
    (search rules) (search rules) (search rules) (search rules) (search rules) (c.in_ok-push_some-2.ensures
    ∙ ap (λ (ls : List FileTold). ls ++ listed c.with_told.result) c.in_ok-push_some.ensures
    ∙ ap (λ (l : Option FileTold). (c.in_ok-lines.field-0.lines.items ++ listed c.in_ok-of_setup.field-0.line) ++ listed l)
    c.with_told.ensures)

pub returns-clause-paths : goal.returns-clause-paths
returns-clause-paths c = same_paths c.args.given.now c.push_some-2.new.lines.items (returns-clause-told c)
