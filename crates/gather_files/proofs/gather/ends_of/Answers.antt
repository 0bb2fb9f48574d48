use Rattle.std.proofs.Common.{◌∙◌, ℕ, List, ap, arith}
use Rattle.std.specs.List.{suffix_len}
use Rattle.std.proofs.lemmas.List.{take_rest}
use Rattle.gather_files.specs.Gathering.{is_end}
use Rattle.gather_files.proofs.Ends.{all_new, some_new}
use Rattle.gather_files.proofs.gather.ends_of.Goals as goal

pub returns-then-more-held-clause-ends : goal.returns-then-more-held-clause-ends
returns-then-more-held-clause-ends c = λ before was.
    all_new before c.args.held.now c.args.seen c.args.ends c.count_ends-more.result was
    (c.count_ends-more.ensures.count ∙ ap (λ (l : List ℕ). suffix_len is_end l) (take_rest c.args.held.now c.args.seen))
    c.if-more-held.true

pub returns-else-more-held-clause-ends : goal.returns-else-more-held-clause-ends
returns-else-more-held-clause-ends c = λ before was.
    some_new before c.args.held.now c.args.seen c.count_ends-more.result
    (c.count_ends-more.ensures.count ∙ ap (λ (l : List ℕ). suffix_len is_end l) (take_rest c.args.held.now c.args.seen))
    (omega arith)
