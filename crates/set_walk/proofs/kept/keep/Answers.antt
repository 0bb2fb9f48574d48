use Rattle.std.proofs.lemmas.Result.{on_ok_weaker}
use Rattle.set_walk.proofs.Keeping.{kept_more}
use Rattle.set_walk.proofs.kept.keep.Goals as goal

pub returns : goal.returns
returns c = on_ok_weaker c.add_if-2.result
    (λ added. λ xs kept. kept_more c.args.kept.now
    (record { hls = c.add_if.new.list; names = c.add_names_if.new.list; labelled = c.add_if-2.new.list }) xs c.args.seg.now
    c.args.slot.now c.is_hl-is_level.result c.is_some.result c.requires.id c.is_hl-is_level.ensures c.is_some.ensures
    c.in_ok-add_if.ensures c.in_ok-add_names_if.ensures added kept)
    c.add_if-2.ensures
