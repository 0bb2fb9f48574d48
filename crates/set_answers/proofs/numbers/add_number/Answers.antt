use Rattle.std.proofs.Common.{ℕ, Option, sym, ap, ◌∙◌}
use Rattle.std.specs.List.{list_any}
use Rattle.ack_999.specs.Group.{are_same_number}
use Rattle.set_answers.specs.Answers.{group_number}
use Rattle.set_answers.proofs.Numbering.{none_agrees}
use Rattle.set_answers.proofs.numbers.add_number.Goals as goal

pub returns-in-None-clause-earlier : goal.returns-in-None-clause-earlier
returns-in-None-clause-earlier c before has =
    sym (ap (λ (n : Option ℕ). list_any (λ g. are_same_number n (group_number g)) before) c.in-None.is ∙ none_agrees before)
