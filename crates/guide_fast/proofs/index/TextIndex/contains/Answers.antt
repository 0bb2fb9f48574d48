use Rattle.guide_fast.proofs.Straying.{has_some}
use Rattle.guide_fast.proofs.index.TextIndex.contains.Goals as goal

pub returns : goal.returns
returns c texts knows =
    has_some c.args.text.now texts c.places.result.now c.is_empty.result c.is_empty.ensures (c.places.ensures texts knows)
