use Rattle.std.proofs.Common.{◌∙◌, arith, option_map, sym}
use Rattle.guide_tree.specs.Words.{guide_of}
use Rattle.learn_judge.specs.Indexed.{TakesEntry}
use Rattle.learn_judge.proofs.Below.{all_of, is_none, one_more_at}
use Rattle.learn_judge.proofs.judge.unmet_in_text.Goals as goal

pub loop-k-preserved : goal.loop-k-preserved
loop-k-preserved c =
    let none = is_none c.in_ok-found.found (sym c.is_some.ensures ∙ c.if-is_some.false) in
    one_more_at (TakesEntry (guide_of c.args.guide.now) (option_map (λ t. t.now) c.args.st01) c.args.text.now) c.args.entries.now c.loop-k.k
    c.index-entries-k.result c.loop-k.invariant c.loop-k-test.true c.index-entries-k.is (c.in_ok-found.ensures none)

pub returns : goal.returns
returns c none =
    all_of (TakesEntry (guide_of c.args.guide.now) (option_map (λ t. t.now) c.args.st01) c.args.text.now) c.args.entries.now c.loop-k.k
    (omega (arith, c.loop-k-test.false)) c.loop-k.invariant
