use Rattle.std.proofs.Common.{◌∙◌}
use Rattle.guide_fast.proofs.Counting.{within, rising, between}
use Rattle.guide_fast.proofs.children.Children.needed_between.Goals as goal

pub count_between-requires-clause-bound : goal.count_between-requires-clause-bound
count_between-requires-clause-bound c =
    within c.args.self.now c.self.inside.nodes.now c.as_slice.result.now c.args.to c.self.view_is
    (c.as_slice.ensures.value ∙ c.self.invariant.1) c.requires.bound

pub count_between-requires-clause-rising : goal.count_between-requires-clause-rising
count_between-requires-clause-rising c =
    rising c.args.self.now c.self.inside.nodes.now c.as_slice.result.now c.args.from c.args.to c.self.view_is
    (c.as_slice.ensures.value ∙ c.self.invariant.1) c.requires.order c.requires.bound

pub returns : goal.returns
returns c at outer =
    c.count_between.ensures
    ∙ between c.args.self.now c.self.inside.nodes.now c.as_slice.result.now c.args.from c.args.to at outer c.self.view_is
    (c.as_slice.ensures.value ∙ c.self.invariant.1) c.requires.order c.requires.bound
