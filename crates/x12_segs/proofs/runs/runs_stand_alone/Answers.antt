use Rattle.x12_segs.proofs.RunLemmas.{stands_alone}
use Rattle.x12_segs.proofs.runs.runs_stand_alone.Goals as goal

pub returns : goal.returns
returns c =
    λ before run behind is some. stands_alone before run behind c.args.text.now c.args.terminator c.args.from c.requires is some
