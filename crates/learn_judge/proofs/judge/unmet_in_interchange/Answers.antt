use Rattle.std.proofs.Common.{◌∙◌, ap, arith, option_map, subst, sym}
use Rattle.x12_bytes.specs.Header.{header_delims}
use Rattle.x12_bytes.specs.declared.delims.Delims.{Delims}
use Rattle.guide_tree.specs.Words.{guide_of}
use Rattle.learn_judge.specs.Indexed.{HasSpansIn, TakesGroupIn}
use Rattle.learn_judge.proofs.Below.{all_of, holds_at, is_none, one_more}
use Rattle.learn_judge.proofs.judge.unmet_in_interchange.Goals as goal

pub unmet_in_group-requires : goal.unmet_in_group-requires
unmet_in_group-requires c =
    let same = c.delims-delims.ensures.value ∙ ap header_delims c.header.ensures in
    subst (λ (d : Delims). HasSpansIn c.args.text.now d c.group.result) (sym same)
    (holds_at (HasSpansIn c.args.text.now (header_delims c.args.interchange.now.header)) c.args.interchange.now.content.groups c.loop-k.k
    c.group.result c.requires c.group.ensures)

pub loop-k-preserved : goal.loop-k-preserved
loop-k-preserved c =
    let guide = guide_of c.args.guide.now in
    let st01 = option_map (λ t. t.now) c.args.st01 in
    let same = c.delims-delims.ensures.value ∙ ap header_delims c.header.ensures in
    let none = is_none c.in_ok-found.found (sym c.is_some.ensures ∙ c.if-is_some.false) in
    one_more (TakesGroupIn guide st01 c.args.text.now (header_delims c.args.interchange.now.header))
    c.args.interchange.now.content.groups c.loop-k.k c.group.result c.loop-k.invariant c.group.ensures
    (subst (λ (d : Delims). TakesGroupIn guide st01 c.args.text.now d c.group.result) same (c.in_ok-found.ensures none))

pub returns : goal.returns
returns c none =
    all_of (TakesGroupIn (guide_of c.args.guide.now) (option_map (λ t. t.now) c.args.st01) c.args.text.now
    (header_delims c.args.interchange.now.header)) c.args.interchange.now.content.groups c.loop-k.k
    (omega (arith, c.loop-k-test.false, c.group_count-k-end.ensures)) c.loop-k.invariant
