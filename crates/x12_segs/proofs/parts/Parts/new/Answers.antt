use Rattle.x12_segs.proofs.PartLemmas.{length-parts_by}
use Rattle.x12_segs.proofs.parts.Parts.new.Goals as goal

pub returns-clause-len : goal.returns-clause-len
returns-clause-len c = length-parts_by c.args.separator c.args.text.now
