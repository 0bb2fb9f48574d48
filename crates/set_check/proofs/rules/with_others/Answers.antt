use Rattle.set_check.proofs.Rising.{put_beside}
use Rattle.set_check.proofs.rules.with_others.Goals as goal

pub returns : goal.returns
returns c f =
    put_beside c.args.errors c.in_order-faults.result c.args.others c.in_ok-kept.kept c.append.new.self c.in_order-faults.ensures.same
    c.in_ok-kept.ensures c.in_ok-append.ensures f
