use Rattle.std.proofs.Common.{◌≡◌, subst, arith, length}
use Rattle.std.proofs.lemmas.Bool.{OnTrue_at}
use Rattle.hl_check.specs.Levels.{LooksWholeTo}
use Rattle.hl_check.proofs.Levelled.{looks_more, whole_if_looks}
use Rattle.hl_check.proofs.Naming.{as_many}
use Rattle.hl_check.proofs.levels.look_whole.Goals as goal

pub loop-count-preserved : goal.loop-count-preserved
loop-count-preserved c hls are =
    looks_more c.args.rule.now c.args.delims hls c.loop-count.count (c.loop-count.invariant hls are)
    (λ h. OnTrue_at c.if-not-is_whole_at.false c.is_whole_at.ensures hls h are)

pub returns : goal.returns
returns c hls are =
    let few = c.if-names-gt-MOST_LEVELS.false in
    let most = c.loop-count.auto.count-end in
    let all = c.loop-count-test.false in
    let n : length hls ≡ length c.args.names.now = as_many c.args.names.now hls are in
    let end : c.loop-count.count ≡ length hls = omega (arith, n, most, all) in
    whole_if_looks c.args.rule.now c.args.delims hls (omega (arith, n, few))
    (subst (LooksWholeTo c.args.rule.now c.args.delims hls) end (c.loop-count.invariant hls are))
