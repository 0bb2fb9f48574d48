use Rattle.std.proofs.Common.{[], sym, ◌∙◌}
use Rattle.set_answers.proofs.Numbered.{by_numbers}
use Rattle.set_answers.proofs.settled.settled_faults.Goals as goal

pub returns : goal.returns
returns c =
    c.in_ok-faults.ensures c.args.setup.now [] (c.as_slice.ensures.value ∙ c.in_ok-alone.ensures.faults) c.new.ensures
    ∙ sym (by_numbers c.args.setup.now [] c.args.index.now.entries)
