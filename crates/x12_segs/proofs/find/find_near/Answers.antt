use Rattle.x12_segs.proofs.FirstLemmas.{first_byte-taken}
use Rattle.x12_segs.proofs.find.find_near.Goals as goal

pub returns : goal.returns
returns c = first_byte-taken c.args.byte c.args.text.now _ _ _ c.memchr_iter.ensures.value c.next.ensures.steps
