use Rattle.std.proofs.Common.{refl, None}
use Rattle.set_walk.proofs.Seeing.{seen_nothing}
use Rattle.set_walk.proofs.seen.nothing_seen.Goals as goal

pub returns : goal.returns
returns c g =
    seen_nothing g
    (record {
      walk = record { last = c.new.result; next = c.new-2.result; slot = 0; count = 0 };
      structure = c.new-3.result;
      errors = c.new-4.result;
      kept = record { hls = c.new-5.result; names = c.new-6.result; labelled = c.new-7.result };
      trailer = None;
    })
    c.new.ensures.items refl c.new-3.ensures c.new-4.ensures c.new-5.ensures.items c.new-6.ensures.items c.new-7.ensures.items refl
