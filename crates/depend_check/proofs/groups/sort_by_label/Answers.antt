use Rattle.std.proofs.Common.{rules, tests}
use Rattle.std.specs.Cmp.Lexicographic.{slice_cmp}
use Rattle.std.specs.Ordering.{is_lt, nat_cmp}
use Rattle.std.proofs.lemmas.Cmp.{nat_list_cmp_total}
use Rattle.std.proofs.lemmas.List.Sorted.{ranks_by, answers_always}
use Rattle.loop_match.specs.Viewed.{placed_view}
use Rattle.depend_check.specs.Uses.{label_at}
use Rattle.depend_check.proofs.Lists.{reordered}
use Rattle.depend_check.proofs.groups.sort_by_label.Goals as goal

pub returns-clause-same : goal.returns-clause-same
returns-clause-same c p =
    reordered placed_view c.args.placed.now.items c.sort_unstable_by.new.self.items p c.sort_unstable_by.ensures.permutation

pub returns-clause-sorted : goal.returns-clause-sorted
returns-clause-sorted c =
    c.sort_unstable_by.ensures.sorted (λ x y. is_lt (slice_cmp nat_cmp (label_at x) (label_at y))) (ranks_by nat_list_cmp_total label_at)
    (answers_always _ _ _ (λ x a r f' k. search (rules, tests)))
