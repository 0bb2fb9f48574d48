use Rattle.std.proofs.Common.{◌∙◌, ◌++◌, ◌+◌, List, ℕ, ap, sym, append-nil, arith}
use Rattle.std.proofs.lemmas.List.{drop_all}
use Rattle.mailbox.specs.declared.outcome.Outcome.{Outcome}
use Rattle.night_report.proofs.Outcomes.{held_from, held_of_group, lines_from, lines_of_group}
use Rattle.night_report.proofs.groups.append_held_of_group.Goals as goal

pub returns-clause-text : goal.returns-clause-text
returns-clause-text c g is =
    sym (append-nil c.loop-i.out.items)
    ∙ ap (λ (os : List (List Outcome)). c.loop-i.out.items ++ lines_from c.args.setup.now (c.loop-i.i + 1) os)
    (sym (drop_all c.loop-i.i c.args.outcomes.now c.loop-i-test.false))
    ∙ c.loop-i.invariant.text
    ∙ ap (λ (text : List ℕ). c.args.out.now.items ++ text) (lines_of_group c.args.setup.now g c.args.outcomes.now is)

pub returns-clause-held : goal.returns-clause-held
returns-clause-held c g is =
    let none = ap held_from (drop_all c.loop-i.i c.args.outcomes.now c.loop-i-test.false) in
    omega (arith, none, c.loop-i.invariant.held) ∙ held_of_group c.args.setup.now g c.args.outcomes.now is
