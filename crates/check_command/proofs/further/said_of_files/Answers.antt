use Rattle.std.proofs.Common.{◌∙◌, ◌++◌, List, ap, rules, subst, sym}
use Rattle.check_command.specs.Files.{listed}
use Rattle.check_command.specs.Further.{AreSaid, Sentences}
use Rattle.check_command.proofs.Behind.{all_said}
use Rattle.check_command.proofs.further.said_of_files.Goals as goal

pub returns : goal.returns
returns c =
    subst (λ (ss : List Sentences). AreSaid c.args.given.now ss) (sym c.from_vec.ensures)
    (all_said c.args.given.now c.in_ok-all.all.items c.push_some-2.new.all.items c.in_ok-setup.setup c.in_ok-counters.counters
    (search rules) (search rules) (search rules)
    (c.in_ok-push_some-2.ensures
    ∙ ap (λ (ss : List Sentences). ss ++ listed c.in_ok-counters.counters) c.in_ok-push_some.ensures))
