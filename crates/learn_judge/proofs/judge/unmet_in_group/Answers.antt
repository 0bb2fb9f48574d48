use Rattle.std.proofs.Common.{◌∙◌, arith, option_map, subst, sym}
use Rattle.x12_segs.specs.Words.{SegValue}
use Rattle.guide_tree.specs.Words.{guide_of}
use Rattle.learn_judge.specs.Indexed.{IsTakenIn}
use Rattle.learn_judge.proofs.Below.{all_of, is_none, one_more}
use Rattle.learn_judge.proofs.judge.unmet_in_group.Goals as goal

pub loop-k-preserved : goal.loop-k-preserved
loop-k-preserved c =
    let guide = guide_of c.args.guide.now in
    let st01 = option_map (λ t. t.now) c.args.st01 in
    let none = is_none c.in_ok-found.found (sym c.is_some.ensures ∙ c.if-is_some.false) in
    one_more (IsTakenIn guide st01 c.args.text.now c.args.delims c.args.group.now.header) c.args.group.now.sets c.loop-k.k c.set.result
    c.loop-k.invariant c.set.ensures
    (subst (λ (h : SegValue). IsTakenIn guide st01 c.args.text.now c.args.delims h c.set.result) c.header-header.ensures
    (c.in_ok-found.ensures none))

pub returns : goal.returns
returns c none =
    all_of (IsTakenIn (guide_of c.args.guide.now) (option_map (λ t. t.now) c.args.st01) c.args.text.now c.args.delims
    c.args.group.now.header) c.args.group.now.sets c.loop-k.k (omega (arith, c.loop-k-test.false, c.set_count-k-end.ensures))
    c.loop-k.invariant
